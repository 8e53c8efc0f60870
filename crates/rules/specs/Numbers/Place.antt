-- Lists read by place, and what is asked of the places below n. Assumes nothing.
use Rattle.std.specs.Prelude.{Bool, true, false, ◌&&◌, ◌||◌, List, [], ◌∷◌, ℕ, zero, suc, ◌+◌, max, eqb, ltb, get_or, set, if◌then◌else◌}

-- what stands at place i, and 0 past the end
abbrev pub at : List ℕ → ℕ → ℕ
at xs i = get_or xs i 0

-- f holds at every place below n
unfoldable pub every : (ℕ → Bool) → ℕ → Bool
every f zero = true
every f (suc k) = every f k && f k

-- f holds at some place below n
unfoldable pub any : (ℕ → Bool) → ℕ → Bool
any f zero = false
any f (suc k) = any f k || f k

-- at how many places below n f holds
unfoldable pub count : (ℕ → Bool) → ℕ → ℕ
count f zero = 0
count f (suc k) = if f k then count f k + 1 else count f k

-- f 0 + f 1 + .. + f (n - 1)
unfoldable pub sum : (ℕ → ℕ) → ℕ → ℕ
sum f zero = 0
sum f (suc k) = sum f k + f k

-- f (i + 1) + f (i + 2) + .. + f (n - 1)
unfoldable pub sum_after : ℕ → (ℕ → ℕ) → ℕ → ℕ
sum_after i f n = sum (λ k. if ltb i k then f k else 0) n

-- the greatest of f 0, f 1, .., f (n - 1), and 0 without any
unfoldable pub greatest : (ℕ → ℕ) → ℕ → ℕ
greatest f zero = 0
greatest f (suc k) = max (greatest f k) (f k)

-- the first of `left` places from place i on at which f holds, or the place after them all
unfoldable pub first_from : (ℕ → Bool) → ℕ → ℕ → ℕ
first_from f i zero = i
first_from f i (suc left) = if f i then i else first_from f (suc i) left

-- f i, f (i + 1), .., n of them
unfoldable pub from : {X : Type 0} → (ℕ → X) → ℕ → ℕ → List X
from f i zero = []
from f i (suc n) = f i ∷ from f (suc i) n

-- f 0, f 1, .., f (n - 1)
abbrev pub tabulate : {X : Type 0} → ℕ → (ℕ → X) → List X
tabulate n f = from f 0 n

-- the list with f k at each place k below n
unfoldable pub renewed : List ℕ → (ℕ → ℕ) → ℕ → List ℕ
renewed xs f zero = xs
renewed xs f (suc k) = set (renewed xs f k) k (f k)

-- the list with these values from place i on; what would come past its end is not stored
unfoldable pub stored : List ℕ → ℕ → List ℕ → List ℕ
stored xs i [] = xs
stored xs i (v ∷ vs) = stored (set xs i v) (suc i) vs

-- every element is 0
unfoldable pub zeros : List ℕ → Bool
zeros [] = true
zeros (x ∷ xs) = eqb x 0 && zeros xs
