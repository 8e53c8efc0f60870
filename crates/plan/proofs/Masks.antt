-- The loop that puts each use into its task's set. Assumes nothing.
use Rattle.std.specs.Prelude.{if◌then◌else◌}
use mathlib.Core.Path.{◌≡◌, ◌∙◌, ap}
use mathlib.Core.List.{List}
use Prim.Native.Nat.{ℕ, ◌+◌, ◌≤◌, ◌<◌}
use native.Mathlib.Numerals.{add-one}
use native.Mathlib.Omega.{arith}
use lib.Dec.{ltb}
use lib.ListN.{length, set}
use borrow.Author.Tests.{lt-ltb}
use Rattle.rules.specs.Numbers.Capacity.{max_tasks, max_locks}
use Rattle.rules.specs.Numbers.Place.{at}
use Rattle.rules.specs.Numbers.Mask.{with_bit}
use Rattle.rules.specs.Books.Load.{use_task, use_lock, masks_of}
use Rattle.rules.proofs.Numbers.Choice.{if_true}
use Rattle.plan.specs.Placed.{Placed}

-- w is the use at place i
module _ (n m i w : ℕ) (uses : List ℕ) (read : w ≡ at uses i) where
  pub task_placed : Placed n m uses → i < length uses → use_task w < n
  unfolding Placed
  task_placed h b = rw read (h i b).0

  pub lock_placed : Placed n m uses → i < length uses → use_lock w < m
  unfolding Placed
  lock_placed h b = rw read (h i b).1

module _ (uses : List ℕ) where
  abbrev pub MasksSoFar : ℕ → List ℕ → Type 0
  MasksSoFar i masks = (i ≤ length uses) × (masks ≡ masks_of uses i)

  pub masks_start : (masks : List ℕ) → masks ≡ masks_of uses 0 → MasksSoFar 0 masks
  masks_start masks e = (omega arith, e)

  -- w is the use at place i, t and l its ids, v the set with the lock
  module _ (i w t l : ℕ) (read : w ≡ at uses i) (task : t ≡ use_task w) (lock : l ≡ use_lock w) where
    pub task_in_lem : Placed max_tasks max_locks uses → i < length uses → t < max_tasks
    task_in_lem h b = rw task (task_placed max_tasks max_locks i w uses read h b)

    pub lock_in_lem : Placed max_tasks max_locks uses → i < length uses → l < max_locks
    lock_in_lem h b = rw lock (lock_placed max_tasks max_locks i w uses read h b)

    pub masks_next : (masks : List ℕ) (v : ℕ) → MasksSoFar i masks → i < length uses → Placed max_tasks max_locks uses
        → v ≡ (if ltb l max_locks then with_bit (at masks t) l else at masks t) → MasksSoFar (i + 1) (set masks t v)
    unfolding masks_of
    masks_next masks v e h u g =
        let o : v ≡ with_bit (at masks t) l = g ∙ if_true (ltb l max_locks) (with_bit (at masks t) l) (at masks t) (lt-ltb l max_locks (lock_in_lem u h)) in
        (omega arith, rw (add-one i) (rw (o, task, lock, read, e.1)))

  pub masks_end : (i : ℕ) (masks : List ℕ) → MasksSoFar i masks → length uses ≤ i → masks ≡ masks_of uses (length uses)
  masks_end i masks e h = let q : i ≡ length uses = omega arith in e.1 ∙ ap (masks_of uses) q
