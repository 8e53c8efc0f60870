-- The plan that is built: its tables hold 0 past the records. Assumes nothing.
use mathlib.Core.Path.{◌≡◌, refl, sym, ◌∙◌, ap}
use mathlib.Core.List.{List}
use Prim.Native.Nat.{ℕ, ◌≤◌}
use lib.ListN.{length, replicate}
use Rattle.rules.specs.Numbers.Capacity.{max_tasks, max_locks}
use Rattle.rules.specs.Numbers.Place.{at, renewed, tabulate}
use Rattle.rules.specs.Books.Load.{task_base, task_maximum, lock_ceiling, lock_limit, masks_of, plan_of}
use Rattle.rules.specs.declared.plan.Plan.{Plan}
use Rattle.rules.proofs.Numbers.Place.{renewed_table, none_past}

-- a table filled from the records has 0 past them
table : (f : ℕ → ℕ) (n : ℕ) (xs : List ℕ) → f 0 ≡ 0 → length xs ≤ n → renewed (replicate n 0) (λ i. f (at xs i)) (length xs) ≡ tabulate n (λ i. f (at xs i))
table f n xs z h = renewed_table (λ i. f (at xs i)) n (length xs) h (λ i l. ap f (sym (none_past xs (length xs) i refl l)) ∙ z)

pub as_plan : (tasks locks uses base maximum ceiling limit masks : List ℕ) (few : (length tasks ≤ max_tasks) × (length locks ≤ max_locks))
    → base ≡ renewed (replicate max_tasks 0) (λ t. task_base (at tasks t)) (length tasks)
    → maximum ≡ renewed (replicate max_tasks 0) (λ t. task_maximum (at tasks t)) (length tasks)
    → ceiling ≡ renewed (replicate max_locks 0) (λ l. lock_ceiling (at locks l)) (length locks)
    → limit ≡ renewed (replicate max_locks 0) (λ l. lock_limit (at locks l)) (length locks)
    → masks ≡ masks_of uses (length uses)
    → ◌≡◌ {A = Plan}
    (record { tasks = length tasks; locks = length locks; base = base; maximum = maximum; ceiling = ceiling; limit = limit; uses = masks })
    (plan_of tasks locks uses)
unfolding plan_of
as_plan tasks locks uses base maximum ceiling limit masks few a b c d e = rw (
  a,
  b,
  c,
  d,
  e,
  table task_base max_tasks tasks refl few.0,
  table task_maximum max_tasks tasks refl few.0,
  table lock_ceiling max_locks locks refl few.1,
  table lock_limit max_locks locks refl few.1,
)
