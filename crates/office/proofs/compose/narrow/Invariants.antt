-- The first i numbers are stored.
use Rattle.std.proofs.Common.{length, ◌%◌}
use Rattle.rules.specs.Numbers.Place.{at}
use Rattle.rules.proofs.Numbers.Place.{RenewedSoFar}
use Rattle.office.proofs.compose.narrow.Given as goal

abbrev pub invariant-loop-i : goal.invariant-loop-i
invariant-loop-i l = RenewedSoFar l.fn.to (λ k. at l.from k % 65536) (length l.from) l.i l.to
