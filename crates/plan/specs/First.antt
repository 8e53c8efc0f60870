-- The first of the places below n at which a test holds, if there is one. Assumes nothing.
use Rattle.std.specs.Prelude.{Bool, ℕ, ltb, Option, Some, None, if◌then◌else◌}
use Rattle.rules.specs.Numbers.Place.{first_from}

unfoldable pub first_place : (ℕ → Bool) → ℕ → Option ℕ
first_place f n = if ltb (first_from f 0 n) n then Some (first_from f 0 n) else None
