-- No lock below l is past its limit.
use Rattle.rules.specs.Numbers.Capacity.{max_locks}
use Rattle.rules.proofs.Numbers.Place.{PassedSoFar}
use Rattle.office.specs.Explain.{past_at}
use Rattle.office.proofs.explain.past_lock.Given as goal

abbrev pub invariant-loop-l : goal.invariant-loop-l
invariant-loop-l l = PassedSoFar (past_at l.plan.limit l.state.owner l.state.units l.state.head.running l.amount) max_locks l.l
