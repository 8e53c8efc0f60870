-- A sentence with two numbers, computed to its bytes: `task 12 runs at 5`. Assumes nothing.
use Rattle.std.specs.Prelude.{◌≡◌, refl, [], ◌∷◌}
use Rattle.page.specs.Ascii.{ascii}
use Rattle.page.specs.Decimal.{digits_in, digits}
use Rattle.page.specs.Says.{filled, says}

shown : says "task @ runs at @" (12 ∷ 5 ∷ []) ≡
    116 ∷ 97 ∷ 115 ∷ 107 ∷ 32 ∷ 49 ∷ 50 ∷ 32 ∷ 114 ∷ 117 ∷ 110 ∷ 115 ∷ 32 ∷ 97 ∷ 116 ∷ 32 ∷ 53 ∷ []
unfolding ascii digits_in digits filled
shown = refl
