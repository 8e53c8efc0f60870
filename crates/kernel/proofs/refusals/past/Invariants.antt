-- No section that was passed would go past its limit. Assumes nothing.
use Rattle.rules.specs.Numbers.Place.{at}
use Rattle.kernel.proofs.TestLaws.{WithinSoFar}
use Rattle.kernel.proofs.refusals.past.Given as goal

abbrev pub invariant-loop-older : goal.invariant-loop-older
invariant-loop-older l = WithinSoFar l.plan.limit l.state.units l.a l.plan.locks (at l.state.takes l.state.head.running)
    (at l.state.depth l.state.head.running) l.left l._older
