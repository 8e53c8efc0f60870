-- RULES 3.5: a set of locks as a number, whose bit l says that lock l is in it. Assumes nothing.
use Rattle.std.specs.Prelude.{Bool, ℕ, ◌+◌, ◌/◌, ◌%◌, ◌^◌, eqb, if◌then◌else◌}

unfoldable pub has_bit : ℕ → ℕ → Bool
has_bit mask l = eqb (mask / 2 ^ l % 2) 1

unfoldable pub with_bit : ℕ → ℕ → ℕ
with_bit mask l = if has_bit mask l then mask else mask + 2 ^ l
