-- RULES 15: a number in decimal. Assumes nothing.
use Rattle.std.specs.Prelude.{List, [], ◌∷◌, ◌++◌, ℕ, zero, suc, ◌+◌, ◌/◌, ◌%◌, ltb, if◌then◌else◌}

-- the digit d below 10: `0` is 48
abbrev pub digit : ℕ → ℕ
digit d = 48 + d

-- the digits of n, where there are at most k of them: its last one stands after those of a tenth of it
unfoldable pub digits_in : ℕ → ℕ → List ℕ
digits_in zero n = []
digits_in (suc k) n = (if ltb n 10 then [] else digits_in k (n / 10)) ++ digit (n % 10) ∷ []

-- n has at most n + 1 digits
unfoldable pub digits : ℕ → List ℕ
digits n = digits_in (suc n) n
