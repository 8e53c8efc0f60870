-- The order of the load: each check is asked where those before it found no offender. Assumes nothing.
use mathlib.Core.Path.{◌≡◌, sym, ◌∙◌, ap}
use mathlib.Core.List.{List, [], ◌∷◌}
use Prim.Native.Nat.{ℕ, ◌≤◌}
use native.Mathlib.Omega.{arith}
use lib.ListN.{length}
use Rattle.std.specs.Prelude.{Result, Some, None, Ok, Err}
use Rattle.rules.specs.Numbers.Verdict.{Verdict, fault_at}
use Rattle.rules.specs.Numbers.Capacity.{max_tasks, max_locks}
use Rattle.rules.specs.Numbers.Refusal.{number_of, Check, first_fault, check_for}
use Rattle.rules.specs.Books.Plan.{ceiling_fault}
use Rattle.rules.specs.Books.Load.{use_above, plan_of, record_checks, load_checks, passed_load, loaded_as, loaded_with, load_of}
use Rattle.rules.specs.declared.plan.Plan.{Plan}
use Rattle.rules.specs.declared.answer.Fault.{Fault}
use Rattle.rules.specs.declared.refusal.Refusal.{Refusal}
use Rattle.rules.specs.declared.refusal.Refusal.TheVariants.{WrongCount, WrongUse, WrongCeiling, AboveMaximum}
use Rattle.rules.proofs.Numbers.Checks.{Clean, clean_for, check_left, check_right, check_none}
use Rattle.rules.proofs.Books.Loaded.{tasks_fit, locks_fit, use_known}
use Rattle.plan.specs.First.{first_place}
use Rattle.plan.specs.Placed.{Placed}
use Rattle.plan.proofs.First.{place_refuses, place_passes}

module _ (tasks locks uses : List ℕ) where
  abbrev p : Plan
  p = plan_of tasks locks uses

  pub refused_record : (r : Result Plan Fault) (f : Fault) → r ≡ Err f → Err f ≡ first_fault (record_checks tasks locks uses)
      → loaded_with r ≡ load_of tasks locks uses
  unfolding load_of loaded_as loaded_with load_checks
  refused_record r f h e = ap loaded_with h ∙ ap (λ w. loaded_as w p) (sym (check_left (record_checks tasks locks uses) _ f.why f.place (sym e)))

  module _ (passed : Ok tt ≡ first_fault (record_checks tasks locks uses)) where
    clean : (why : Refusal) → Clean (check_for why (record_checks tasks locks uses))
    clean = clean_for (record_checks tasks locks uses) (sym passed)

    few_tasks : length tasks ≤ max_tasks
    unfolding record_checks check_for number_of
    few_tasks = tasks_fit (length tasks) (length locks) (length uses) (clean WrongCount 0 (omega arith))

    few_locks : length locks ≤ max_locks
    unfolding record_checks check_for number_of
    few_locks = locks_fit (length tasks) (length locks) (length uses) (clean WrongCount 1 (omega arith))

    pub few_records : (length tasks ≤ max_tasks) × (length locks ≤ max_locks)
    few_records = (few_tasks, few_locks)

    pub known : Placed (length tasks) (length locks) uses
    unfolding record_checks check_for number_of Placed
    known i b = use_known (length tasks) (length locks) uses i (clean WrongUse i b)

    pub placed : Placed max_tasks max_locks uses
    unfolding Placed
    placed i b = let (t, l) = known i b in (omega (arith, few_tasks), omega (arith, few_locks))

    -- the checks after those of the records: 7, and 24
    abbrev ceilings : Check
    ceilings = record { refusal = WrongCeiling; first = 0; count = length locks; fault = ceiling_fault p }

    abbrev maxima : Check
    maxima = record { refusal = AboveMaximum; first = 0; count = length uses; fault = use_above tasks locks uses }

    later : (v : Verdict) → v ≡ first_fault (ceilings ∷ maxima ∷ []) → loaded_as v p ≡ load_of tasks locks uses
    unfolding load_of load_checks
    later v e = ap (λ w. loaded_as w p) (e ∙ sym (check_right (record_checks tasks locks uses) _ (sym passed)))

    -- q is the plan as built
    module _ (q : Plan) (built : q ≡ p) where
      pub plan_fits : (q.tasks ≤ max_tasks) × (q.locks ≤ max_locks)
      unfolding plan_of
      plan_fits = rw built few_records

      pub wrong_ceiling : (l : ℕ) → Some l ≡ first_place (ceiling_fault q) q.locks → loaded_with (Err (fault_at WrongCeiling l)) ≡ load_of tasks locks uses
      unfolding plan_of loaded_as loaded_with
      wrong_ceiling l e = later _ (place_refuses ceilings _ l l (e ∙ ap (λ w. first_place (ceiling_fault w) w.locks) built) (omega arith))

      module _ (right : None ≡ first_place (ceiling_fault q) q.locks) where
        right_there : None ≡ first_place (ceiling_fault p) (length locks)
        unfolding plan_of
        right_there = right ∙ ap (λ w. first_place (ceiling_fault w) w.locks) built

        pub above_maximum : (u : ℕ) → Some u ≡ first_place (use_above tasks locks uses) (length uses)
            → loaded_with (Err (fault_at AboveMaximum u)) ≡ load_of tasks locks uses
        unfolding loaded_as loaded_with
        above_maximum u e = later _ (place_passes ceilings _ _ right_there (place_refuses maxima _ u u e (omega arith)))

        pub all_right : None ≡ first_place (use_above tasks locks uses) (length uses) → loaded_with (Ok q) ≡ load_of tasks locks uses
        unfolding loaded_as loaded_with
        all_right e = ap passed_load built ∙ later _ (place_passes ceilings _ _ right_there (place_passes maxima _ _ e (sym check_none)))
