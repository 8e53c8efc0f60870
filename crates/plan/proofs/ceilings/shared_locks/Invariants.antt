use Rattle.plan.proofs.Users.{SharedSoFar}
use Rattle.plan.proofs.ceilings.shared_locks.Given as goal

abbrev pub invariant-loop-set : goal.invariant-loop-set
invariant-loop-set l = SharedSoFar l.p l.set-index l.used l.shared
