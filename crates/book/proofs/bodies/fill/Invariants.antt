use Rattle.std.proofs.Common.{◌≡◌, ◌+◌, ◌*◌, take}
use Rattle.rules.specs.Numbers.Place.{tabulate}
use Rattle.book.proofs.bodies.fill.Given as goal

abbrev pub invariant-loop-i : goal.invariant-loop-i
invariant-loop-i g l = take l.i l.records ≡ tabulate l.i (λ k. g.F.Field.number_at l.b (l.from + k * g.F.Field.SIZE))
