-- `kernel::finish::finish` meets its contract. The kernel switches. Assumes nothing.
use Rattle.std.proofs.Common.{arith}
use Rattle.kernel.proofs.EventLaws.{finish_stands, finish_acts}
use Rattle.kernel.proofs.finish.finish.Goals as goal

pub bounds-state-state : goal.bounds-state-state
bounds-state-state c = c.requires.0.runs

pub enter-requires : goal.enter-requires
enter-requires c l = absurd (omega (arith, l, c.requires.0.runs))

pub switch-requires : goal.switch-requires
switch-requires c = finish_stands c.args.plan.now _ _ _ _ c.requires.0 c.enter.ensures c.requires.1

pub returns-clause-state_after : goal.returns-clause-state_after
returns-clause-state_after c = finish_acts _ _ _ _ _ _ c.requires.0 c.enter.ensures c.requires.1.tasks c.switch.ensures.state_after
