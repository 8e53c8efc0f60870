use Rattle.std.specs.Prelude.{if◌then◌else◌}
use Rattle.rules.specs.Books.Plan.{declares}
use Rattle.rules.specs.Numbers.Place.{at}
use Rattle.rules.proofs.Numbers.Place.{GreatestSoFar}
use Rattle.plan.proofs.ceilings.users_base.Given as goal

abbrev pub invariant-loop-x : goal.invariant-loop-x
invariant-loop-x l = GreatestSoFar (λ y. if declares l.p y l.l then at l.p.base y else 0) l.p.tasks l.x l.top
