-- A book that passes: the checks of 1 to 9 and 24 name each number once, and where they say 0 the contents pass, the plan obeys the rules and the events pass.
-- Assumes nothing.
use Rattle.std.specs.Prelude.{Ok, Err}
use Rattle.rules.specs.Numbers.Verdict.{Verdict}
use mathlib.Core.Path.{◌≡◌, refl, ◌∙◌, ap}
use mathlib.Core.Bool.{true, false}
use mathlib.Core.List.{List}
use Prim.Native.Nat.{ℕ, zero, suc, ◌<◌}
use native.Mathlib.Omega.{arith}
use lib.ListN.{length}
use Rattle.rules.specs.Numbers.Refusal.{number_of, first_fault, check_for}
use Rattle.rules.specs.Numbers.Answer.{verdict_number}
use Rattle.rules.specs.Books.Plan.{Obeys, count_fault}
use Rattle.rules.specs.Books.Load.{count_fault_of, record_checks, load_checks}
use Rattle.rules.specs.Books.Book.{count_at, tasks_of, locks_of, uses_of, plan_in, contents_checks, event_checks, check_of, checked_as}
use Rattle.rules.specs.Demands.Demand1.{book_checks}
use Rattle.rules.specs.declared.refusal.Refusal.TheVariants.{WrongCount}
use Rattle.rules.proofs.Numbers.Place.{length_from}
use Rattle.rules.proofs.Numbers.Order.{among, once}
use Rattle.rules.proofs.Numbers.Checks.{of_check, clean_for, passed_both, spare_check, none_refused_at}
use Rattle.rules.proofs.Books.Loaded.{loaded_obeys}

-- the verdict that a check of a book holds
pub verdict_held : (v : Verdict) (b : List ℕ) → (checked_as v b).verdict ≡ v
unfolding checked_as
verdict_held (Ok _) b = refl
verdict_held (Err f) b = refl

module _ (b : List ℕ) where
  pub counts_clean : first_fault (contents_checks b) ≡ Ok tt → (e : ℕ) → e < 3
      → count_fault_of (length (tasks_of b)) (length (locks_of b)) (length (uses_of b)) e ≡ false
  unfolding contents_checks check_for number_of count_fault_of
  counts_clean passed zero h = ap (count_fault 0) (length_from _ 0 (count_at b 0)) ∙ clean_for (contents_checks b) passed WrongCount 0 (omega arith)
  counts_clean passed (suc zero) h = ap (count_fault 1) (length_from _ 0 (count_at b 1)) ∙ clean_for (contents_checks b) passed WrongCount 1 (omega arith)
  counts_clean passed (suc (suc zero)) h = ap (count_fault 2) (length_from _ 0 (count_at b 2)) ∙ clean_for (contents_checks b) passed WrongCount 2 (omega arith)
  counts_clean passed (suc (suc (suc e))) h = absurd (omega arith)

  module _ (room : ℕ) where
    -- the records' own check of the counts finds nothing that the contents' check does not
    pub check_is : check_of b room ≡ first_fault (book_checks b room)
    unfolding check_of load_checks record_checks
    check_is = spare_check (contents_checks b) _ _ counts_clean

    pub checks_once : once of_check (book_checks b room) ≡ true
    unfolding contents_checks load_checks record_checks event_checks among once number_of
    checks_once = refl

    pub check_passes : verdict_number (check_of b room) ≡ 0 → check_of b room ≡ Ok tt
    check_passes = none_refused_at (check_of b room)

    module _ (passed : check_of b room ≡ Ok tt) where
      pub passed_contents : first_fault (contents_checks b) ≡ Ok tt
      unfolding check_of
      passed_contents = (passed_both (contents_checks b) _ passed).0

      passed_rest : (first_fault (load_checks (tasks_of b) (locks_of b) (uses_of b)) ≡ Ok tt) × (first_fault (event_checks b room) ≡ Ok tt)
      unfolding check_of
      passed_rest = passed_both (load_checks (tasks_of b) (locks_of b) (uses_of b)) (event_checks b room) (passed_both (contents_checks b) _ passed).1

      pub passed_loads : first_fault (load_checks (tasks_of b) (locks_of b) (uses_of b)) ≡ Ok tt
      passed_loads = passed_rest.0

      pub passed_obeys : Obeys (plan_in b)
      passed_obeys = loaded_obeys (tasks_of b) (locks_of b) (uses_of b) passed_loads

      pub passed_events : first_fault (event_checks b room) ≡ Ok tt
      passed_events = passed_rest.1
