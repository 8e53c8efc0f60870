-- Numbers that two bytes hold. Assumes nothing.
use Rattle.std.specs.Prelude.{List, ℕ, ◌<◌}
use Rattle.rules.specs.Numbers.Place.{at}

pub record Small (xs : List ℕ) : Type 0 where
  pub below : (i : ℕ) → at xs i < 65536
