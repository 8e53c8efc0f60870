-- `kernel::release::arrive` meets its contract. The newcomer waits, runs, or is one of those among whom the kernel switches. Assumes nothing.
use Rattle.kernel.proofs.SwitchLaws.{arrives_first, arrives_among, arrives_later}
use Rattle.kernel.proofs.release.arrive.Goals as goal

pub returns-then-not-above-clause-state_after : goal.returns-then-not-above-clause-state_after
returns-then-not-above-clause-state_after c = arrives_later _ _ _ _ _ _ c.if-not-above.ensures c.newcomer_waits.ensures.state_after

pub returns-then-lt-clause-state_after : goal.returns-then-lt-clause-state_after
returns-then-lt-clause-state_after c = arrives_first _ _ _ _ _ _ c.if-not-above.ensures c.newcomer_runs.ensures.state_after

pub returns-else-lt-clause-state_after : goal.returns-else-lt-clause-state_after
returns-else-lt-clause-state_after c =
    arrives_among _ _ _ _ _ _ _ _ c.keep.ensures.tree_after.tasks c.if-not-above.ensures c.keep.ensures.state_after c.leave.ensures.state_after
