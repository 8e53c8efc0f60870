use Rattle.std.proofs.Common.{◌<◌, ◌-◌, if◌then◌else◌}
use lib.Dec.{ltb}
use Rattle.rules.specs.Books.Plan.{declares}
use Rattle.rules.specs.Numbers.Place.{at}
use Rattle.rules.proofs.Numbers.Place.{GreatestSoFar, AskedSoFar}
use Rattle.plan.proofs.Users.{above}
use Rattle.plan.proofs.walk.users_of.Given as goal

abbrev pub invariant-loop-x : goal.invariant-loop-x
invariant-loop-x l = record {
  bases : GreatestSoFar (λ y. if declares l.p y l.l then at l.p.base y else 0) l.p.tasks l.x l.top;
  gaps : AskedSoFar (above l.p l.l (at l.p.ceiling l.l)) l.p.tasks l.x (ltb (255 - at l.p.ceiling l.l) l.gap);
  byte : at l.p.ceiling l.l < 256;
}
