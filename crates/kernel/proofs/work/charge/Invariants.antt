-- What is left to charge. Assumes nothing.
use Rattle.kernel.proofs.WorkLaws.{ChargedSoFar}
use Rattle.kernel.proofs.work.charge.Given as goal

abbrev pub invariant-loop-older : goal.invariant-loop-older
invariant-loop-older l = ChargedSoFar l.fn.units l.a l.row l.k l.units l.left l.older
