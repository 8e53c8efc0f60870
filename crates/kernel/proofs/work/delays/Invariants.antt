-- The tasks before t have their delays. Assumes nothing.
use Rattle.kernel.proofs.WorkLaws.{WaitedSoFar}
use Rattle.kernel.proofs.work.delays.Given as goal

abbrev pub invariant-loop-t : goal.invariant-loop-t
invariant-loop-t l = WaitedSoFar l.plan l.fn.state l.a l.t l.state
