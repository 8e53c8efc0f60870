-- What the theory uses of a plan that obeys the rules. Assumes nothing.
use Rattle.std.specs.Prelude.{if◌then◌else◌}
use mathlib.Core.Path.{◌≡◌}
use mathlib.Core.Bool.{Bool, true, false}
use mathlib.Core.Logic.{◌↔◌}
use Prim.Native.Nat.{ℕ, ◌≤◌, ◌<◌}
use native.Mathlib.Omega.{arith}
use lib.Dec.{eqb, ltb}
use borrow.Author.Tests.{eqb-true, eqb-false, eq-eqb, ltb-false, le-ltb, not-false}
use Rattle.rules.specs.Numbers.Capacity.{max_tasks, max_locks}
use Rattle.rules.specs.Numbers.Place.{at, count}
use Rattle.rules.specs.Books.Plan.{most, count_fault, task_fault, declares, Shared, users, users_base, users_fault, ceiling_fault, maximum_fault, Obeys}
use Rattle.rules.specs.declared.plan.Plan.{Plan}
use Rattle.rules.proofs.Numbers.Choice.{if_true, or_false}
use Rattle.rules.proofs.Numbers.Place.{count_two, two_count, greatest_all}

-- what the test of 7 passes
pub seven : (p : Plan) (l : ℕ) → (ceiling_fault p l ≡ false) ↔ (Shared p l × (at p.ceiling l ≡ users_base p l))
unfolding ceiling_fault users_fault users
seven p l = (
  λ e.
      let (many, right) = or_false _ _ e in
      let (x, y, d, k, a, b) = count_two may p.tasks (ltb-false (count may p.tasks) 2 many) in (
        record { one = x; other = y; different = d; known = k; one_may = a; other_may = b },
        eqb-true (at p.ceiling l) (users_base p l) (not-false _ right),
      ),
  λ (S, e). rw (
    le-ltb (count may p.tasks) 2 (two_count may p.tasks S.one S.other S.different S.known S.one_may S.other_may),
    eq-eqb (at p.ceiling l) (users_base p l) e,
  ),
)
  where
    may : ℕ → Bool
    may x = declares p x l

module _ {p : Plan} (O : Obeys p) where
  pub few_tasks : p.tasks ≤ max_tasks
  unfolding count_fault most
  few_tasks = ltb-false max_tasks p.tasks (or_false (eqb p.tasks 0) (ltb max_tasks p.tasks) O.tasks).1

  pub few_locks : p.locks ≤ max_locks
  unfolding count_fault most
  few_locks = ltb-false max_locks p.locks O.locks

  pub base_some : (t : ℕ) → t < p.tasks → 0 < at p.base t
  unfolding task_fault
  base_some t h = omega (arith, eqb-false (at p.base t) 0 (or_false _ (ltb (at p.maximum t) (at p.base t)) (O.bases t h)).0)

  -- a task's maximum is at least its base, and at least the ceiling of each lock that it may take
  pub base_maximum : (t : ℕ) → t < p.tasks → at p.base t ≤ at p.maximum t
  unfolding task_fault
  base_maximum t h = ltb-false (at p.maximum t) (at p.base t) (or_false (eqb (at p.base t) 0) _ (O.bases t h)).1

  pub ceiling_maximum : (t l : ℕ) → t < p.tasks → l < p.locks → declares p t l ≡ true → at p.ceiling l ≤ at p.maximum t
  unfolding maximum_fault
  ceiling_maximum t l h k d = ltb-false (at p.maximum t) (at p.ceiling l) (O.maxima t l h k d)

  ceiling_is : (l : ℕ) → l < p.locks → at p.ceiling l ≡ users_base p l
  ceiling_is l h = ((seven p l).0 (O.ceilings l h)).1

  -- a lock's ceiling is at least the base of each of its users
  pub ceiling_user : (x l : ℕ) → x < p.tasks → l < p.locks → declares p x l ≡ true → at p.base x ≤ at p.ceiling l
  unfolding users_base
  ceiling_user x l hx hl d =
      let b : ℕ → ℕ = λ y. if declares p y l then at p.base y else 0 in
      omega (arith, ceiling_is l hl, greatest_all b p.tasks x hx, if_true (declares p x l) (at p.base x) 0 d)

  pub base_byte : (t : ℕ) → at p.base t < 256
  base_byte t = O.base_bytes t

  pub ceiling_byte : (l : ℕ) → at p.ceiling l < 256
  ceiling_byte l = O.ceiling_bytes l
