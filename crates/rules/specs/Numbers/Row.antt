-- RULES 7.2 to 7.4: a row of takes, each by its lock, or of saved words, as a number in base 256, newest first; the priority of a row, and its saved words.
-- Assumes nothing.
use Rattle.std.specs.Prelude.{Bool, false, ◌||◌, ℕ, zero, suc, ◌+◌, ◌*◌, ◌/◌, ◌%◌, max, eqb}

abbrev pub newest : ℕ → ℕ
newest row = row % 256

abbrev pub under : ℕ → ℕ
under row = row / 256

abbrev pub pushed : ℕ → ℕ → ℕ
pushed row x = row * 256 + x

-- l is among the k newest of the row
unfoldable pub has : ℕ → ℕ → ℕ → Bool
has row zero l = false
has row (suc k) l = eqb (newest row) l || has (under row) k l

-- the priority of a task of this base with a row of k takes: without any its base, else the ceiling of the newest one's lock or what the rest of the row
-- gives, whichever is greater
unfoldable pub priority : (ℕ → ℕ) → ℕ → ℕ → ℕ → ℕ
priority ceiling base row zero = base
priority ceiling base row (suc k) = max (ceiling (newest row)) (priority ceiling base (under row) k)

-- the words that were saved at these takes: beside each the priority under it
unfoldable pub saves : (ℕ → ℕ) → ℕ → ℕ → ℕ → ℕ
saves ceiling base row zero = 0
saves ceiling base row (suc k) = pushed (saves ceiling base (under row) k) (priority ceiling base (under row) k)
