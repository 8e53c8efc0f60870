-- RULES 3: what a plan must obey, and the faults that 2, 4 to 7 and 24 refuse. Assumes nothing.
use Rattle.std.specs.Prelude.{◌≡◌, Bool, true, false, not, ◌&&◌, ◌||◌, ℕ, ◌≤◌, ◌<◌, ◌^◌, eqb, ltb, if◌then◌else◌}
use Rattle.rules.specs.Numbers.Capacity.{max_tasks, max_locks, max_uses, max_events}
use Rattle.rules.specs.Numbers.Place.{at, any, count, greatest}
use Rattle.rules.specs.Numbers.Mask.{has_bit}
use Rattle.rules.specs.declared.plan.Plan.{Plan}

-- the most records that an entry may have; the entries are 0 tasks, 1 locks, 2 uses, 3 events
unfoldable pub most : ℕ → ℕ
most e = if eqb e 0 then max_tasks else if eqb e 1 then max_locks else if eqb e 2 then max_uses else max_events

-- 2: more records than there may be, or no task
unfoldable pub count_fault : ℕ → ℕ → Bool
count_fault e n = (eqb e 0 && eqb n 0) || ltb (most e) n

-- 4: no base, or a maximum below the base
unfoldable pub task_fault : (base maximum : ℕ) → Bool
task_fault base maximum = eqb base 0 || ltb maximum base

-- 5: no ceiling, no limit, or something in the second byte
unfoldable pub lock_fault : ℕ → ℕ → ℕ → Bool
lock_fault ceiling second limit = eqb ceiling 0 || not (eqb second 0) || eqb limit 0

-- the plan lets task x take lock l
unfoldable pub declares : Plan → ℕ → ℕ → Bool
declares p x l = has_bit (at p.uses x) l

-- lock l is shared: two different tasks of the plan may take it
pub record Shared (p : Plan) (l : ℕ) : Type 0 where
  pub one : ℕ
  pub other : ℕ
  pub different : one < other
  pub known : other < p.tasks
  pub one_may : declares p one l ≡ true
  pub other_may : declares p other l ≡ true

-- how many users a lock has, and the greatest base among them
unfoldable pub users : Plan → ℕ → ℕ
users p l = count (λ x. declares p x l) p.tasks

unfoldable pub users_base : Plan → ℕ → ℕ
users_base p l = greatest (λ x. if declares p x l then at p.base x else 0) p.tasks

-- 7: fewer than two users, or a ceiling that is not the highest base of its users
unfoldable pub users_fault : ℕ → ℕ → ℕ → Bool
users_fault users ceiling highest = ltb users 2 || not (eqb ceiling highest)

unfoldable pub ceiling_fault : Plan → ℕ → Bool
ceiling_fault p l = users_fault (users p l) (at p.ceiling l) (users_base p l)

-- 24, of a task of this maximum that may take a lock of this ceiling: the ceiling is above the maximum
unfoldable pub maximum_fault : (maximum ceiling : ℕ) → Bool
maximum_fault maximum ceiling = ltb maximum ceiling

-- and of a lock: so it is for one of its users
unfoldable pub above_fault : Plan → ℕ → Bool
above_fault p l = any (λ x. declares p x l && maximum_fault (at p.maximum x) (at p.ceiling l)) p.tasks

-- a plan obeys 2, 4 to 7 and 24
pub record Obeys (p : Plan) : Type 0 where
  -- 2: no more tasks and locks than there may be, and at least one task
  pub tasks : count_fault 0 p.tasks ≡ false
  pub locks : count_fault 1 p.locks ≡ false
  -- 4: a base of 1 to 255, and a maximum of at least the base, to 255
  pub bases : (t : ℕ) → t < p.tasks → task_fault (at p.base t) (at p.maximum t) ≡ false
  pub base_bytes : (t : ℕ) → at p.base t < 2 ^ 8
  pub maximum_bytes : (t : ℕ) → at p.maximum t < 2 ^ 8
  -- 5: a ceiling of 1 to 255, and a limit of 1 to 65,535 units
  pub sections : (l : ℕ) → l < p.locks → lock_fault (at p.ceiling l) 0 (at p.limit l) ≡ false
  pub ceiling_bytes : (l : ℕ) → at p.ceiling l < 2 ^ 8
  pub limit_bytes : (l : ℕ) → at p.limit l < 2 ^ 16
  -- 6: a use names a lock of the plan
  pub uses : (t : ℕ) → t < p.tasks → at p.uses t < 2 ^ p.locks
  -- 7: each lock has two users or more, and its ceiling is the highest base of its users
  pub ceilings : (l : ℕ) → l < p.locks → ceiling_fault p l ≡ false
  -- 24: no task may take a lock whose ceiling is above the task's maximum
  pub maxima : (t l : ℕ) → t < p.tasks → l < p.locks → declares p t l ≡ true → maximum_fault (at p.maximum t) (at p.ceiling l) ≡ false
  -- places past the last task and the last lock hold 0
  pub no_task : (t : ℕ) → p.tasks ≤ t → (at p.base t ≡ 0) × (at p.maximum t ≡ 0) × (at p.uses t ≡ 0)
  pub no_lock : (l : ℕ) → p.locks ≤ l → (at p.ceiling l ≡ 0) × (at p.limit l ≡ 0)
