-- RULES 6.4: a book and the table of its task records give the same plan or the same refusal. Assumes nothing.
use Rattle.std.specs.Prelude.{Ok, Err}
use Rattle.rules.specs.Numbers.Verdict.{Verdict}
use mathlib.Core.Path.{◌≡◌, refl, sym, ◌∙◌, ap}
use mathlib.Core.Logic.{◌⊎◌, inl, inr, ⊎_elim}
use mathlib.Core.Bool.{Bool, false}
use mathlib.Core.List.{List, ◌∷◌, ◌++◌}
use Prim.Native.Nat.{ℕ, zero, suc, ◌+◌, ◌≤◌, ◌<◌}
use native.Mathlib.Omega.{arith}
use lib.Dec.{ltb}
use lib.ListN.{length, length-map}
use borrow.Author.Tests.{le-ltb}
use Rattle.rules.specs.Numbers.Capacity.{max_tasks}
use Rattle.rules.specs.Numbers.Place.{from, first_from}
use Rattle.rules.specs.Numbers.Refusal.{Check, first_fault}
use Rattle.rules.specs.Books.Plan.{count_fault}
use Rattle.rules.specs.Books.Load.{count_fault_of, record_checks, load_checks, refused_load, loaded_as, load_of}
use Rattle.rules.specs.Books.Book.{contents, count_at, layout_fault, tasks_of, locks_of, uses_of, plan_in, contents_checks, event_checks, check_of, checked_as, checked_of}
use Rattle.rules.specs.declared.refusal.Refusal.TheVariants.{WrongCount}
use Rattle.rules.proofs.Numbers.Choice.{by_test, untrue, lt_or_le}
use Rattle.rules.proofs.Numbers.Place.{first_stop, first_on, first_hit, length_from}
use Rattle.rules.proofs.Numbers.Checks.{check_left, check_right, check_finds, check_passes, one_passes}
use Rattle.device.specs.Table.{word_of, numbers_of}
use Rattle.device.proofs.Kept.{too_many}
use Rattle.device.specs.BookForm.{record_at, records_of, answer_of, OnlyPlan}
use Rattle.device.specs.declared.table.TaskRecord.{TaskRecord}

-- ---- too many

-- a table of more records than a plan may have is refused, 2 at place 1, whatever its records are
pub table_too_long : (ts : List TaskRecord) (locks uses : List ℕ) → max_tasks < length ts → load_of (numbers_of ts) locks uses ≡ refused_load WrongCount 1
table_too_long ts locks uses h = too_many (numbers_of ts) locks uses (omega (arith, h, length-map ts word_of))

-- ---- first places

no_first : (f : ℕ → Bool) (n : ℕ) → ((x : ℕ) → x < n → f x ≡ false) → n ≤ first_from f 0 n
no_first f n h = ⊎_elim (λ l. untrue (sym (first_hit f 0 n (omega (arith, l))) ∙ h (first_from f 0 n) l)) (λ l. l) (lt_or_le (first_from f 0 n) n)

-- g agrees with f, but for one place more, where f does not hold: they find the same place, or none
one_more : (f g : ℕ → Bool) (i left : ℕ) → ((x : ℕ) → i ≤ x → x < i + left → f x ≡ g x) → f (i + left) ≡ false
    → ((first_from g i left ≡ first_from f i (suc left)) × (first_from g i left < i + left)) ⊎ (i + left < first_from f i (suc left))
unfolding first_from
one_more f g i zero h e =
    let q : first_from f i 1 ≡ suc i = first_on f i 0 (ap f (omega arith) ∙ e) in
    inr (omega (arith, q))
one_more f g i (suc left) h e = by_test (g i)
    (λ t. inl (first_stop g i left t ∙ sym (first_stop f i (suc left) (h i (omega arith) (omega arith) ∙ t)), omega (arith, first_stop g i left t)))
    (λ t. let p : first_from g i (suc left) ≡ first_from g (suc i) left = first_on g i left t in
    let q : first_from f i (suc (suc left)) ≡ first_from f (suc i) (suc left) = first_on f i (suc left) (h i (omega arith) (omega arith) ∙ t) in
    ⊎_elim (λ (c : (first_from g (suc i) left ≡ first_from f (suc i) (suc left)) × (first_from g (suc i) left < suc i + left)). inl
    (p ∙ c.0 ∙ sym q, omega (arith, p, c.1)))
    (λ (c : suc i + left < first_from f (suc i) (suc left)). inr (omega (arith, q, c)))
    (one_more f g (suc i) left (λ x a b. h x (omega arith) (omega arith)) (ap f (omega arith) ∙ e)))

-- ---- the same numbers

map_from : (f : ℕ → TaskRecord) (i n : ℕ) → numbers_of (from f i n) ≡ from (λ k. word_of (f k)) i n
unfolding from
map_from f i zero = refl
map_from f i (suc n) = ap (λ ws. word_of (f i) ∷ ws) (map_from f (suc i) n)

module _ (b : List ℕ) where
  pub same_numbers : numbers_of (records_of b) ≡ tasks_of b
  same_numbers = map_from (record_at b) 0 (count_at b 0)

  -- the load that the book's check asks, with its locks and its uses
  pub same_load : load_of (numbers_of (records_of b)) (locks_of b) (uses_of b) ≡ load_of (tasks_of b) (locks_of b) (uses_of b)
  same_load = ap (λ tasks. load_of tasks (locks_of b) (uses_of b)) same_numbers

  -- ---- the same verdict

  module _ (room : ℕ) (only : OnlyPlan b room) where
    abbrev loads : List Check
    loads = load_checks (tasks_of b) (locks_of b) (uses_of b)

    abbrev counts_there : ℕ → Bool
    counts_there e = count_fault e (count_at b e)

    abbrev counts_here : ℕ → Bool
    counts_here = count_fault_of (length (tasks_of b)) (length (locks_of b)) (length (uses_of b))

    same_counts : (e : ℕ) → 0 ≤ e → e < 0 + 3 → counts_there e ≡ counts_here e
    unfolding count_fault_of
    same_counts zero _ h = ap (count_fault 0) (sym (length_from _ 0 (count_at b 0)))
    same_counts (suc zero) _ h = ap (count_fault 1) (sym (length_from _ 0 (count_at b 1)))
    same_counts (suc (suc zero)) _ h = ap (count_fault 2) (sym (length_from _ 0 (count_at b 2)))
    same_counts (suc (suc (suc e))) _ h = absurd (omega arith)

    -- where the events pass, the plan decides
    decides : (v : Verdict) → first_fault loads ≡ v → first_fault (loads ++ event_checks b room) ≡ v
    decides (Ok _) e = check_right loads (event_checks b room) e ∙ only.records
    decides (Err f) e = check_left loads (event_checks b room) f.why f.place e

    same_verdict : check_of b room ≡ first_fault loads
    unfolding check_of contents_checks load_checks record_checks
    same_verdict =
        check_passes _ _ 1 (one_passes (ltb (length b) contents) (le-ltb (length b) contents only.whole)) (omega arith)
        ∙ ⊎_elim
        (λ (c : (first_from counts_here 0 3 ≡ first_from counts_there 0 4) × (first_from counts_here 0 3 < 0 + 3)). check_finds _ _ (first_from counts_here 0 3) c.0
        (omega (arith, c.1)) ∙ sym (check_finds _ _ (first_from counts_here 0 3) refl (omega (arith, c.1))))
        (λ (c : 0 + 3 < first_from counts_there 0 4). check_passes _ _ (first_from counts_there 0 4) refl (omega (arith, c))
        ∙ check_passes _ _ (first_from (layout_fault b) 0 5) refl (no_first (layout_fault b) 5 only.layout)
        ∙ decides (first_fault loads) refl)
        (one_more counts_there counts_here 0 3 same_counts only.events)

    answered : (v : Verdict) → answer_of (checked_as v b) ≡ loaded_as v (plan_in b)
    unfolding checked_as loaded_as
    answered (Ok _) = refl
    answered (Err f) = refl

    -- a book of which only the plan can be refused answers as `load_table` does for the table of its task records, with its locks and its uses
    pub same_as_book : answer_of (checked_of b room) ≡ load_of (numbers_of (records_of b)) (locks_of b) (uses_of b)
    unfolding load_of
    same_as_book = answered (check_of b room) ∙ ap (λ v. loaded_as v (plan_in b)) same_verdict ∙ sym same_load
