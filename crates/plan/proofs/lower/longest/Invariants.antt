use Rattle.std.proofs.Common.{◌≡◌}
use Rattle.rules.specs.Demands.Bound.{limit_if}
use Rattle.rules.specs.Numbers.Place.{greatest}
use Rattle.plan.proofs.lower.longest.Given as goal

abbrev pub invariant-loop-l : goal.invariant-loop-l
invariant-loop-l l = l.top ≡ greatest (limit_if l.p l.b) l.l
