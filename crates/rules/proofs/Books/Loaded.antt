-- A plan that is loaded obeys the rules, and lets a task take a lock exactly where a use says so. Assumes nothing.
use Rattle.std.specs.Prelude.{Ok, Err}
use Rattle.rules.specs.Numbers.Verdict.{Verdict, refused_at}
use mathlib.Core.Path.{◌≡◌, refl, sym, ◌∙◌, ap, ap₂, subst}
use mathlib.Core.Logic.{◌≢◌, ⊎_elim}
use mathlib.Core.Bool.{Bool, true, false, not, ◌&&◌, ◌||◌}
use mathlib.Core.List.{List}
use Prim.Native.Nat.{ℕ, zero, suc, ◌^◌, ◌≤◌, ◌<◌}
use native.Mathlib.Omega.{arith}
use lib.Dec.{eqb, leb, ltb}
use lib.ListN.{length, length-set, length-replicate, get_or-eq_default}
use lib.Seq.{get_or-set_same, get_or-set_other}
use lib.Pow.{pow_pos}
use borrow.Author.Tests.{eqb-true, eqb-false, ltb-false, leb-false}
use Rattle.rules.specs.Numbers.Capacity.{max_tasks, max_locks}
use Rattle.rules.specs.Numbers.Place.{at, any, tabulate}
use Rattle.rules.specs.Numbers.Mask.{has_bit, with_bit}
use Rattle.rules.specs.Books.Plan.{most, count_fault, task_fault, lock_fault, declares, maximum_fault, Obeys}
use Rattle.rules.specs.Books.Load.{task_base, task_maximum, lock_ceiling, lock_second, lock_limit, use_task, use_lock, task_fault_at, lock_fault_at}
use Rattle.rules.specs.Books.Load.{count_fault_of, use_fault, use_above, masks_of, plan_of, record_checks, load_checks, loaded_as, load_of}
use Rattle.rules.specs.Numbers.Refusal.{number_of, first_fault, check_for}
use Rattle.rules.specs.declared.plan.Plan.{Plan}
use Rattle.rules.specs.declared.refusal.Refusal.{Refusal}
use Rattle.rules.specs.declared.refusal.Refusal.TheVariants.{WrongCount, WrongTask, WrongLock, WrongUse, WrongCeiling, AboveMaximum}
use Rattle.rules.proofs.Numbers.Choice.{by_test, and_true, or_false, false_or, at_or, lt_or_le}
use Rattle.rules.proofs.Numbers.Place.{any_some, zero_past, length_from, get_d_tabulate}
use Rattle.rules.proofs.Numbers.Checks.{Clean, clean_for}
use Rattle.rules.proofs.Numbers.Mask.{bit_none, with_has, with_below}

-- ---- places of the plan

at_table : (n : ℕ) (g : ℕ → ℕ) (i : ℕ) → i < n → at (tabulate n g) i ≡ g i
at_table n g i h = get_d_tabulate g n i 0 h

past_table : (n : ℕ) (g : ℕ → ℕ) (i : ℕ) → n ≤ i → at (tabulate n g) i ≡ 0
past_table n g i h = get_or-eq_default (tabulate n g) 0 (omega (arith, length_from g 0 n))

past_end : (xs : List ℕ) (i : ℕ) → length xs ≤ i → at xs i ≡ 0
past_end xs i h = get_or-eq_default xs 0 h

-- a table of n places that is made of no more records by f: each place has its record's, and past the records there is 0
loaded : (f : ℕ → ℕ) (n : ℕ) (xs : List ℕ) → length xs ≤ n → f 0 ≡ 0 → (i : ℕ) → at (tabulate n (λ i. f (at xs i))) i ≡ f (at xs i)
loaded f n xs few none i = ⊎_elim (λ h. at_table n (λ i. f (at xs i)) i h)
    (λ h. past_table n (λ i. f (at xs i)) i h ∙ sym (ap f (past_end xs i (omega arith)) ∙ none)) (lt_or_le i n)

-- the verdict beside a plan is the one that was given
verdict_of_lem : (v : Verdict) (p : Plan) → (loaded_as v p).verdict ≡ v
unfolding loaded_as
verdict_of_lem (Ok _) p = refl
verdict_of_lem (Err f) p = refl

-- ---- uses

module _ (uses : List ℕ) where
  pub masks_length : (k : ℕ) → length (masks_of uses k) ≡ max_tasks
  unfolding masks_of
  masks_length zero = length-replicate {A = ℕ} max_tasks 0
  masks_length (suc k) = length-set (masks_of uses k) (use_task (at uses k)) _ ∙ masks_length k

  masks_here : (k : ℕ) → use_task (at uses k) < max_tasks → at (masks_of uses (suc k)) (use_task (at uses k))
      ≡ with_bit (at (masks_of uses k) (use_task (at uses k))) (use_lock (at uses k))
  unfolding masks_of
  masks_here k h = get_or-set_same (masks_of uses k) (use_task (at uses k)) _ 0 (omega (arith, masks_length k))

  masks_other : (k t : ℕ) → t ≢ use_task (at uses k) → at (masks_of uses (suc k)) t ≡ at (masks_of uses k) t
  unfolding masks_of
  masks_other k t n = get_or-set_other (masks_of uses k) (use_task (at uses k)) t _ 0 n

  module _ (n m : ℕ) (small : n ≤ max_tasks) (known : (i : ℕ) → i < length uses → (use_task (at uses i) < n) × (use_lock (at uses i) < m)) where
    masks_below : (k t : ℕ) → k ≤ length uses → at (masks_of uses k) t < 2 ^ m
    unfolding masks_of
    masks_below zero t h = omega (arith, zero_past max_tasks t, pow_pos m)
    masks_below (suc k) t h = at_or (λ t. at (masks_of uses (suc k)) t < 2 ^ m) (use_task (at uses k))
        (rw (masks_here k (omega (arith, (known k h).0))) (with_below m (at (masks_of uses k) (use_task (at uses k))) (use_lock (at uses k)) (known k h).1
        (masks_below k (use_task (at uses k)) (omega arith))))
        (λ t q. rw (masks_other k t q) (masks_below k t (omega arith))) t

    masks_past : (k t : ℕ) → k ≤ length uses → n ≤ t → at (masks_of uses k) t ≡ 0
    unfolding masks_of
    masks_past zero t h q = zero_past max_tasks t
    masks_past (suc k) t h q = masks_other k t (λ e. omega (arith, (known k h).0)) ∙ masks_past k t (omega arith) q

    -- the first k uses let t take l exactly where one of them says so
    pub masks_say : (k t l : ℕ) → k ≤ length uses → has_bit (at (masks_of uses k) t) l ≡ any (λ i. eqb (use_task (at uses i)) t && eqb (use_lock (at uses i)) l) k
    unfolding masks_of any
    masks_say zero t l h = ap (λ q. has_bit q l) (zero_past max_tasks t) ∙ bit_none l
    masks_say (suc k) t l h = by_test (eqb (use_task (at uses k)) t)
        (λ e. let q : use_task (at uses k) ≡ t = eqb-true _ _ e in
        rw e (subst (λ t. has_bit (at (masks_of uses (suc k)) t) l ≡ (any says' k || eqb (use_lock (at uses k)) l)) q
        (ap (λ v. has_bit v l) (masks_here k (omega (arith, (known k h).0))) ∙ with_has (at (masks_of uses k) (use_task (at uses k))) (use_lock (at uses k)) l
        ∙ swap (eqb (use_lock (at uses k)) l) (has_bit (at (masks_of uses k) (use_task (at uses k))) l)
        ∙ ap (λ b. b || eqb (use_lock (at uses k)) l) (subst (λ t'. has_bit (at (masks_of uses k) t') l ≡ any says' k) (sym q) (masks_say k t l (omega arith))))))
        (λ e. rw e (ap (λ v. has_bit v l) (masks_other k t (λ q. eqb-false (use_task (at uses k)) t e (sym q))) ∙ masks_say k t l (omega arith)
        ∙ sym (or_none (any says' k))))
      where
        says' : ℕ → Bool
        says' i = eqb (use_task (at uses i)) t && eqb (use_lock (at uses i)) l

        swap : (a b : Bool) → (a || b) ≡ (b || a)
        swap true true = refl
        swap true false = refl
        swap false true = refl
        swap false false = refl

        or_none : (a : Bool) → (a || false) ≡ a
        or_none true = refl
        or_none false = refl

-- ---- what a record that is no offender is

pub tasks_fit : (n m u : ℕ) → count_fault_of n m u 0 ≡ false → n ≤ max_tasks
unfolding count_fault_of count_fault most
tasks_fit n m u e = ltb-false max_tasks n (or_false (eqb n 0) (ltb max_tasks n) e).1

pub locks_fit : (n m u : ℕ) → count_fault_of n m u 1 ≡ false → m ≤ max_locks
unfolding count_fault_of count_fault most
locks_fit n m u e = ltb-false max_locks m e

pub use_known : (n m : ℕ) (uses : List ℕ) (i : ℕ) → use_fault n m uses i ≡ false → (use_task (at uses i) < n) × (use_lock (at uses i) < m)
unfolding use_fault
use_known n m uses i e =
    let (ab, _) = or_false (leb n (use_task (at uses i)) || leb m (use_lock (at uses i))) _ e in
    let (a, b) = or_false (leb n (use_task (at uses i))) (leb m (use_lock (at uses i))) ab in
    (leb-false _ _ a, leb-false _ _ b)

-- ---- a plan that is loaded

module _ (tasks locks uses : List ℕ) (passed : first_fault (load_checks tasks locks uses) ≡ Ok tt) where
  abbrev p : Plan
  p = plan_of tasks locks uses

  clean : (why : Refusal) → Clean (check_for why (load_checks tasks locks uses))
  clean = clean_for (load_checks tasks locks uses) passed

  counts : (e : ℕ) → e < 3 → count_fault_of (length tasks) (length locks) (length uses) e ≡ false
  unfolding load_checks record_checks check_for number_of
  counts = clean WrongCount

  few_tasks : length tasks ≤ max_tasks
  few_tasks = tasks_fit (length tasks) (length locks) (length uses) (counts 0 (omega arith))

  few_locks : length locks ≤ max_locks
  few_locks = locks_fit (length tasks) (length locks) (length uses) (counts 1 (omega arith))

  known_use : (i : ℕ) → i < length uses → (use_task (at uses i) < length tasks) × (use_lock (at uses i) < length locks)
  unfolding load_checks record_checks check_for number_of
  known_use i h = use_known (length tasks) (length locks) uses i (clean WrongUse i h)

  loaded_base : (t : ℕ) → at p.base t ≡ task_base (at tasks t)
  unfolding plan_of
  loaded_base t = loaded task_base max_tasks tasks few_tasks refl t

  loaded_maximum : (t : ℕ) → at p.maximum t ≡ task_maximum (at tasks t)
  unfolding plan_of
  loaded_maximum t = loaded task_maximum max_tasks tasks few_tasks refl t

  loaded_ceiling : (l : ℕ) → at p.ceiling l ≡ lock_ceiling (at locks l)
  unfolding plan_of
  loaded_ceiling l = loaded lock_ceiling max_locks locks few_locks refl l

  loaded_limit : (l : ℕ) → at p.limit l ≡ lock_limit (at locks l)
  unfolding plan_of
  loaded_limit l = loaded lock_limit max_locks locks few_locks refl l

  task_clean : (t : ℕ) → t < length tasks → task_fault (at p.base t) (at p.maximum t) ≡ false
  unfolding load_checks record_checks check_for number_of task_fault_at
  task_clean t h = rw (loaded_base t, loaded_maximum t) (clean WrongTask t h)

  lock_clean : (l : ℕ) → l < length locks → lock_fault (at p.ceiling l) 0 (at p.limit l) ≡ false
  unfolding load_checks record_checks check_for number_of lock_fault_at lock_fault
  lock_clean l h =
      let (ab, c) = or_false (eqb (lock_ceiling (at locks l)) 0 || not (eqb (lock_second (at locks l)) 0)) (eqb (lock_limit (at locks l)) 0)
      (clean WrongLock l h) in
      rw (loaded_ceiling l, loaded_limit l)
      (false_or (eqb (lock_ceiling (at locks l)) 0 || not (eqb 0 0)) (eqb (lock_limit (at locks l)) 0)
      (false_or (eqb (lock_ceiling (at locks l)) 0) (not (eqb 0 0)) (or_false (eqb (lock_ceiling (at locks l)) 0) _ ab).0 refl) c)

  -- the plan lets task t take lock l exactly where a use says so
  pub loaded_uses : (t l : ℕ) → declares p t l ≡ any (λ i. eqb (use_task (at uses i)) t && eqb (use_lock (at uses i)) l) (length uses)
  unfolding plan_of declares
  loaded_uses t l = masks_say uses (length tasks) (length locks) few_tasks known_use (length uses) t l (omega arith)

  -- and no use that says so has a lock above its task's maximum
  use_clean : (t l : ℕ) → t < length tasks → l < length locks → declares p t l ≡ true → maximum_fault (at p.maximum t) (at p.ceiling l) ≡ false
  unfolding load_checks record_checks check_for number_of use_above
  use_clean t l _ _ d =
      let (i, h, says) = any_some (λ i. eqb (use_task (at uses i)) t && eqb (use_lock (at uses i)) l) (length uses) (sym (loaded_uses t l) ∙ d) in
      let (a, b) = and_true (eqb (use_task (at uses i)) t) (eqb (use_lock (at uses i)) l) says in
      ap₂ maximum_fault (loaded_maximum t ∙ ap (λ x. task_maximum (at tasks x)) (sym (eqb-true (use_task (at uses i)) t a)))
      (loaded_ceiling l ∙ ap (λ x. lock_ceiling (at locks x)) (sym (eqb-true (use_lock (at uses i)) l b))) ∙ clean AboveMaximum i h

  pub loaded_obeys : Obeys p
  unfolding plan_of load_checks record_checks check_for number_of count_fault_of
  loaded_obeys = record {
    tasks = counts 0 (omega arith);
    locks = counts 1 (omega arith);
    bases = task_clean;
    base_bytes = λ t. rw (loaded_base t) (omega arith);
    maximum_bytes = λ t. rw (loaded_maximum t) (omega arith);
    sections = lock_clean;
    ceiling_bytes = λ l. rw (loaded_ceiling l) (omega arith);
    limit_bytes = λ l. rw (loaded_limit l) (omega arith);
    uses = λ t h. masks_below uses (length tasks) (length locks) few_tasks known_use (length uses) t (omega arith);
    ceilings = clean WrongCeiling;
    maxima = use_clean;
    no_task = λ t h. (
      loaded_base t ∙ ap task_base (past_end tasks t h),
      loaded_maximum t ∙ ap task_maximum (past_end tasks t h),
      masks_past uses (length tasks) (length locks) few_tasks known_use (length uses) t
          (omega arith) h,
    );
    no_lock = λ l h. (loaded_ceiling l ∙ ap lock_ceiling (past_end locks l h), loaded_limit l ∙ ap lock_limit (past_end locks l h));
  }

-- what a load answers
module _ (tasks locks uses : List ℕ) where
  pub load_refused : (why : Refusal) (place : ℕ) → (load_of tasks locks uses).verdict ≡ refused_at why place
      → first_fault (load_checks tasks locks uses) ≡ refused_at why place
  unfolding load_of
  load_refused why place e = sym (verdict_of_lem (first_fault (load_checks tasks locks uses)) (plan_of tasks locks uses)) ∙ e

  pub load_passed : (load_of tasks locks uses).verdict ≡ Ok tt → first_fault (load_checks tasks locks uses) ≡ Ok tt
  unfolding load_of
  load_passed e = sym (verdict_of_lem (first_fault (load_checks tasks locks uses)) (plan_of tasks locks uses)) ∙ e

  pub loads_plan : first_fault (load_checks tasks locks uses) ≡ Ok tt → (load_of tasks locks uses).plan ≡ plan_of tasks locks uses
  unfolding load_of loaded_as
  loads_plan e = ap (λ v. (loaded_as v (plan_of tasks locks uses)).plan) e

  pub load_plan : (load_of tasks locks uses).verdict ≡ Ok tt → (load_of tasks locks uses).plan ≡ plan_of tasks locks uses
  load_plan e = loads_plan (load_passed e)
