-- RULES 3: the locks that two tasks of a plan may take, as a set. Assumes nothing.
use Rattle.std.specs.Prelude.{◌≡◌, List, ℕ, zero, suc, leb}
use Rattle.std.specs.Int.Bits.{bit_and, bit_or}
use Rattle.rules.specs.Numbers.Mask.{has_bit}
use Rattle.rules.specs.Numbers.Place.{at, count}
use Rattle.rules.specs.Books.Plan.{users}
use Rattle.rules.specs.declared.plan.Plan.{Plan}

abbrev pub SharedLocks : Plan → ℕ → Type 0
SharedLocks p set = (l : ℕ) → has_bit set l ≡ leb 2 (users p l)

-- ---- the same among the first n tasks, for any list of their sets

-- how many may take lock l
unfoldable pub users_by : ℕ → List ℕ → ℕ → ℕ
users_by n uses l = count (λ x. has_bit (at uses x) l) n

-- for all locks at once, as sets: those that one task may take, and those that two may
unfoldable pub used_by : ℕ → List ℕ → ℕ
used_by zero uses = 0
used_by (suc k) uses = bit_or (used_by k uses) (at uses k)

unfoldable pub shared_by : ℕ → List ℕ → ℕ
shared_by zero uses = 0
shared_by (suc k) uses = bit_or (shared_by k uses) (bit_and (used_by k uses) (at uses k))
