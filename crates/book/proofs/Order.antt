-- The order of 1 to 7, 24, 8 and 9: each check is asked where those before it found no offender. Assumes nothing.
use mathlib.Core.Path.{◌≡◌, refl, sym, ◌∙◌, ap, ap₂}
use mathlib.Core.Bool.{not}
use mathlib.Core.List.{List, ◌++◌}
use Prim.Native.Nat.{ℕ, ◌+◌, ◌*◌, ◌-◌, ◌/◌, ◌≤◌, ◌<◌}
use native.Mathlib.Omega.{arith}
use lib.Dec.{ltb, eqb}
use lib.ListN.{length, take, drop, length-drop}
use lib.Seq.{take_all}
use borrow.Author.Tests.{lt-ltb, le-ltb, ltb-false, eqb-true, eq-eqb, ne_eqb, not-false}
use Rattle.rules.specs.Numbers.Capacity.{max_tasks, max_locks, max_uses}
use Rattle.rules.specs.Numbers.Verdict.{Verdict, fault_at, refused_at}
use Rattle.std.proofs.Common.{Option, Some, None, Result, Ok, Err}
use Rattle.std.specs.List.{position, range_with_len}
use Rattle.rules.specs.Numbers.Place.{first_from}
use Rattle.rules.specs.Numbers.Refusal.{number_of, first_fault, check_for}
use Rattle.rules.specs.Books.Plan.{most, count_fault}
use Rattle.rules.specs.Books.Load.{Loaded, load_of, loaded_with, load_checks}
use Rattle.rules.specs.Books.Book.{contents, count_at, body_at, layout_fault, tasks_of, locks_of, uses_of, plan_in, event_body, record_fault}
use Rattle.rules.specs.Books.Book.{contents_checks, event_checks, check_of, passed_check, checked_as, checked_of, checked_with}
use Rattle.rules.specs.declared.plan.Plan.{Plan}
use Rattle.rules.specs.declared.answer.Fault.{Fault}
use Rattle.rules.specs.declared.answer.Opened.{Opened}
use Rattle.rules.specs.declared.refusal.Refusal.TheVariants.{ShortBook, WrongCount, WrongLayout, WrongEvent, ShortRows}
use Rattle.rules.proofs.Numbers.Choice.{or_false}
use Rattle.rules.proofs.Numbers.Checks.{clean_for, check_left, check_right, check_none, check_finds, check_passes, one_finds, one_passes}
use Rattle.rules.proofs.Books.Loaded.{load_refused, load_passed, load_plan}
use Rattle.book.specs.Laid.{Laid}
use Rattle.book.proofs.Firsts.{first_more, first_last, first_no_more, found_below, absent_below}
use Rattle.book.proofs.Parts.{event_size}
use Rattle.book.proofs.LastTests.{wrong_one, no_room, both_pass}

-- ---- 1 to 3

module _ (b : List ℕ) where
  pub short_book : length b < contents → refused_at ShortBook 0 ≡ first_fault (contents_checks b)
  unfolding contents_checks
  short_book h = sym (check_finds _ _ 0 (one_finds (ltb (length b) contents) (lt-ltb (length b) contents h)) (omega arith))

  -- e and l are the first offenders of 2 and 3
  module _ (whole : contents ≤ length b) (e : ℕ) (count : e ≡ first_from (λ i. count_fault i (count_at b i)) 0 4) where
    one : 1 ≡ first_from (λ _. ltb (length b) contents) 0 1
    one = one_passes (ltb (length b) contents) (le-ltb (length b) contents whole)

    pub wrong_count : e < 4 → refused_at WrongCount (e + 1) ≡ first_fault (contents_checks b)
    unfolding contents_checks
    wrong_count h = sym (check_passes _ _ 1 one (omega arith) ∙ check_finds _ _ e count h ∙ ap (refused_at WrongCount) (omega arith))

    module _ (counts : 4 ≤ e) where
      abbrev l : ℕ
      l = first_from (layout_fault b) 0 5

      wrong_layout : (k : ℕ) → k ≡ l → k < 5 → refused_at WrongLayout (k + 1) ≡ first_fault (contents_checks b)
      unfolding contents_checks
      wrong_layout k layout h = sym (check_passes _ _ 1 one (omega arith) ∙ check_passes _ _ e count counts ∙ check_finds _ _ k layout h
          ∙ ap (refused_at WrongLayout) (omega arith))

      pub wrong_part : (k : ℕ) → k < 4 → k ≡ first_from (layout_fault b) 0 4 → refused_at WrongLayout (k + 1) ≡ first_fault (contents_checks b)
      wrong_part k h q = wrong_layout k (first_more (layout_fault b) 4 k h q) (omega arith)

      -- where no entry is wrong, the end decides
      module _ (entries : 4 ≤ first_from (layout_fault b) 0 4) (r : ℕ) (ends : r ≡ body_at b 4) where
        last : layout_fault b 4 ≡ not (eqb r (length b))
        unfolding layout_fault
        last = rw ends refl

        pub wrong_end : (r ≡ length b → ⊥) → refused_at WrongLayout 5 ≡ first_fault (contents_checks b)
        wrong_end n = wrong_layout 4 (first_last (layout_fault b) 4 entries (last ∙ ap not (ne_eqb r (length b) n))) (omega arith)

        pub no_wrong : r ≡ length b → Ok tt ≡ first_fault (contents_checks b)
        unfolding contents_checks
        no_wrong h =
            sym (check_passes _ _ 1 one (omega arith) ∙ check_passes _ _ e count counts
            ∙ check_passes _ _ l refl (first_no_more (layout_fault b) 4 entries (last ∙ ap not (eq-eqb r (length b) h))) ∙ check_none)

  pub laid_out : Ok tt ≡ first_fault (contents_checks b) → Laid b
  unfolding contents_checks check_for number_of count_fault most layout_fault
  laid_out passed =
      let clean = clean_for (contents_checks b) (sym passed) in
      record {
        whole = ltb-false (length b) contents (clean ShortBook 0 (omega arith));
        tasks = ltb-false max_tasks (count_at b 0) (or_false (eqb (count_at b 0) 0) _ (clean WrongCount 0 (omega arith))).1;
        locks = ltb-false max_locks (count_at b 1) (clean WrongCount 1 (omega arith));
        uses = ltb-false max_uses (count_at b 2) (clean WrongCount 2 (omega arith));
        ends = eqb-true (body_at b 4) (length b) (not-false (eqb (body_at b 4) (length b)) (clean WrongLayout 4 (omega arith)));
      }

  -- a refusal of the contents is the book's, and where they pass the rest decides
  module _ (room : ℕ) (r : Result Opened Fault) where
    pub refused_contents : (f : Fault) → r ≡ Err f → Err f ≡ first_fault (contents_checks b) → checked_with r ≡ checked_of b room
    unfolding check_of checked_as checked_with
    refused_contents f h e = ap checked_with h ∙ ap (λ w. checked_as w b) (sym (check_left (contents_checks b) _ f.why f.place (sym e)))

    pub passed_contents : Ok tt ≡ first_fault (contents_checks b)
        → checked_with r ≡ checked_as (first_fault (load_checks (tasks_of b) (locks_of b) (uses_of b) ++ event_checks b room)) b
        → checked_with r ≡ checked_of b room
    unfolding check_of
    passed_contents e h = h ∙ ap (λ w. checked_as w b) (sym (check_right (contents_checks b) _ (sym e)))

  -- ---- 4 to 7 and 24

  module _ (room : ℕ) (r : Result Opened Fault) where
    abbrev rest : Verdict
    rest = first_fault (load_checks (tasks_of b) (locks_of b) (uses_of b) ++ event_checks b room)

    pub refused_plan : (f : Fault) → r ≡ Err f → loaded_with (Err f) ≡ load_of (tasks_of b) (locks_of b) (uses_of b) → checked_with r ≡ checked_as rest b
    unfolding checked_as checked_with loaded_with
    refused_plan f h e =
        ap checked_with h
        ∙ ap (λ w. checked_as w b)
        (sym (check_left (load_checks (tasks_of b) (locks_of b) (uses_of b)) (event_checks b room) f.why f.place
        (load_refused (tasks_of b) (locks_of b) (uses_of b) f.why f.place (ap (λ (l : Loaded). l.verdict) (sym e)))))

    pub passed_plan : (p : Plan) → loaded_with (Ok p) ≡ load_of (tasks_of b) (locks_of b) (uses_of b)
        → checked_with r ≡ checked_as (first_fault (event_checks b room)) b → checked_with r ≡ checked_as rest b
    unfolding loaded_with
    passed_plan p e h =
        h
        ∙ ap (λ w. checked_as w b)
        (sym (check_right (load_checks (tasks_of b) (locks_of b) (uses_of b)) (event_checks b room)
        (load_passed (tasks_of b) (locks_of b) (uses_of b) (ap (λ (l : Loaded). l.verdict) (sym e)))))

  pub plan_read : (p : Plan) → loaded_with (Ok p) ≡ load_of (tasks_of b) (locks_of b) (uses_of b) → p ≡ plan_in b
  unfolding loaded_with
  plan_read p e = ap (λ (l : Loaded). l.plan) e
      ∙ load_plan (tasks_of b) (locks_of b) (uses_of b) (ap (λ (l : Loaded). l.verdict) (sym e))

  -- ---- 8 and 9

  -- the events lie from `events` on, `body` is that part of the book, and o is the first of them that 8 refuses
  module _ (laid : Laid b) (room events : ℕ) (starts : events ≡ body_at b 3) (body : List ℕ) (part : body ≡ take (length b - events) (drop events b)) (o : Option ℕ)
      (asked : o ≡ position (record_fault body) (range_with_len 0 (length body / 4))) where
    whole_part : body ≡ event_body b
    whole_part = part ∙ take_all (length b - events) (drop events b) (omega (arith, length-drop events b)) ∙ ap (λ i. drop i b) starts

    size : length body ≡ count_at b 3 * 4
    size = ap length whole_part ∙ event_size b laid

    records : length body / 4 ≡ count_at b 3
    records = omega (arith, size)

    first : first_from (record_fault body) 0 (length body / 4) ≡ first_from (record_fault (event_body b)) 0 (count_at b 3)
    first = rw (records, whole_part) refl

    pub wrong_event : (k : ℕ) → o ≡ Some k → checked_with (Err (fault_at WrongEvent k)) ≡ checked_as (first_fault (event_checks b room)) b
    unfolding event_checks checked_as checked_with
    wrong_event k e =
        let (l, q) = found_below (record_fault body) (length body / 4) k (sym asked ∙ e) in
        ap (λ w. checked_as w b) (wrong_one (count_at b 3) (record_fault (event_body b)) ShortRows (count_at b 3 * 4) room k (omega (arith, l, records)) (q ∙ first))

    module _ (e : o ≡ None) where
      none : count_at b 3 ≤ first_from (record_fault (event_body b)) 0 (count_at b 3)
      none = omega (arith, first, records, absent_below (record_fault body) (length body / 4) (sym asked ∙ e))

      pub short_rows : room < length body → checked_with (Err (fault_at ShortRows 0)) ≡ checked_as (first_fault (event_checks b room)) b
      unfolding event_checks checked_as checked_with
      short_rows h = ap (λ w. checked_as w b) (no_room (count_at b 3) (record_fault (event_body b)) ShortRows (count_at b 3 * 4) room none (omega (arith, size, h)))

      pub all_right : (p : Plan) → p ≡ plan_in b → length body ≤ room
          → checked_with (Ok (record { plan = p; events = events })) ≡ checked_as (first_fault (event_checks b room)) b
      unfolding event_checks checked_as checked_with
      all_right p q h = ap₂ passed_check q starts
          ∙ ap (λ w. checked_as w b) (both_pass (count_at b 3) (record_fault (event_body b)) ShortRows (count_at b 3 * 4) room none (omega (arith, size, h)))
