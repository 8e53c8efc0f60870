-- RULES 9.7: what work does, as the code goes about it: task by task, and along the row of the running task's takes. Assumes nothing.
use Rattle.std.specs.Prelude.{◌≡◌, Bool, true, false, ◌&&◌, ◌||◌, List, ℕ, zero, suc, ◌+◌, ◌≤◌, ◌<◌, min, ltb, set, if◌then◌else◌}
use Rattle.rules.specs.Numbers.Capacity.{max_delay}
use Rattle.rules.specs.Numbers.Place.{at}
use Rattle.rules.specs.Numbers.Row.{newest, under, has}

-- the delay d of a task of release number y and base q after a units by one of base b
unfoldable pub waited_by : ℕ → ℕ → ℕ → ℕ → ℕ → ℕ
waited_by y q b d a = if ltb 0 y && ltb b q then min max_delay (d + a) else d

-- a units more would take one of the k newest past its limit
unfoldable pub past_row : List ℕ → List ℕ → ℕ → ℕ → ℕ → Bool
past_row limit units a row zero = false
past_row limit units a row (suc k) = ltb (at limit (newest row)) (at units (newest row) + a) || past_row limit units a (under row) k

-- the units after a more for the section of lock l, unless an older take of it counts them
unfoldable pub bumped : List ℕ → (older : Bool) → ℕ → ℕ → List ℕ
bumped units older l a = if older then units else set units l (min max_delay (at units l + a))

-- and after a more for the lock of each of the k newest, once: at its oldest take
unfoldable pub charged_row : List ℕ → ℕ → ℕ → ℕ → List ℕ
charged_row units a row zero = units
charged_row units a row (suc k) = charged_row (bumped units (has (under row) k (newest row)) (newest row) a) a (under row) k

-- the k newest of a row are of locks below m
pub record InRow (m row k : ℕ) : Type 0 where
  pub known : (l : ℕ) → has row k l ≡ true → l < m

-- and each of these has room for a units more
pub record Laden (m : ℕ) (units : List ℕ) (a row k : ℕ) : Type 0 where
  pub known : (l : ℕ) → has row k l ≡ true → l < m
  pub room : (l : ℕ) → has row k l ≡ true → at units l + a ≤ max_delay
