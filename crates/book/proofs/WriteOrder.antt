-- The ways through the writer's tests, and through the writer. Assumes nothing.
use mathlib.Core.Path.{◌≡◌, refl, sym, ◌∙◌, ap, ap₂}
use mathlib.Core.Bool.{false}
use mathlib.Core.List.{List, [], ◌∷◌, ◌++◌, append_assoc}
use Prim.Native.Nat.{ℕ, ◌+◌, ◌≤◌, ◌<◌}
use native.Mathlib.Omega.{arith}
use lib.Dec.{eqb}
use lib.ListN.{length, drop}
use borrow.Author.Tests.{ltb-false}
use Rattle.rules.specs.Numbers.Capacity.{max_tasks, max_locks, max_uses, max_events}
use Rattle.rules.specs.Numbers.Verdict.{Verdict, refused_at}
use Rattle.std.proofs.Common.{Option, Some, None, Result, Ok, Err}
use Rattle.std.specs.List.{position}
use Rattle.rules.specs.Numbers.Place.{at, first_from}
use Rattle.rules.specs.Numbers.Refusal.{number_of, first_fault, check_for}
use Rattle.rules.specs.Books.Event.{number_fault}
use Rattle.rules.specs.Books.Plan.{most, count_fault}
use Rattle.rules.specs.Books.Load.{Loaded, load_checks, load_of, loaded_with}
use Rattle.rules.specs.Books.Bytes.{book_of}
use Rattle.rules.specs.Books.Write.{counts_of, whole_checks, write_checks, wrote_as, write_of, wrote_with}
use Rattle.rules.specs.declared.plan.Plan.{Plan}
use Rattle.rules.specs.declared.answer.Fault.{Fault}
use Rattle.rules.specs.declared.refusal.Refusal.TheVariants.{WrongCount, WrongEvent, ShortBuffer}
use Rattle.rules.proofs.Numbers.Choice.{or_false}
use Rattle.rules.proofs.Numbers.Place.{first_none}
use Rattle.rules.proofs.Numbers.Checks.{clean_for, check_left, check_right, check_finds, check_passes, passed_both}
use Rattle.rules.proofs.Books.Loaded.{load_refused, load_passed}
use Rattle.book.proofs.LastTests.{wrong_one, no_room, both_pass}
use Rattle.book.specs.Part.{index_of}
use Rattle.book.proofs.Firsts.{found_in, absent_in}
use Rattle.book.proofs.Places.{parts, part_found, part_absent}
use Rattle.book.specs.Room.{Few, Room, last_checks}

-- ---- 8 and 23

-- o is the first event that 8 refuses
module _ (events : List ℕ) (size room : ℕ) (o : Option ℕ) (asked : o ≡ position number_fault events) where
  pub event_refused : (k : ℕ) → o ≡ Some k → refused_at WrongEvent k ≡ first_fault (last_checks events size room)
  event_refused k e =
      let (l, q) = found_in number_fault 0 events k (sym asked ∙ e) in
      wrong_one (length events) (λ i. number_fault (at events i)) ShortBuffer size room k l q

  module _ (none : o ≡ None) where
    pub buffer_short : room < size → refused_at ShortBuffer 0 ≡ first_fault (last_checks events size room)
    buffer_short = no_room (length events) (λ i. number_fault (at events i)) ShortBuffer size room (absent_in number_fault 0 events (sym asked ∙ none))

    pub last_passes : size ≤ room → Ok tt ≡ first_fault (last_checks events size room)
    last_passes = both_pass (length events) (λ i. number_fault (at events i)) ShortBuffer size room (absent_in number_fault 0 events (sym asked ∙ none))

-- ---- all of them

-- counts that pass 2
few_counts : (tasks locks uses events : List ℕ) → ((i : ℕ) → i < 4 → count_fault i (counts_of tasks locks uses events i) ≡ false)
    → Few (length tasks) (length locks) (length uses) (length events)
unfolding count_fault most
few_counts tasks locks uses events clean = record {
  tasks = ltb-false max_tasks (length tasks) (or_false (eqb (length tasks) 0) _ (clean 0 (omega arith))).1;
  locks = ltb-false max_locks (length locks) (clean 1 (omega arith));
  uses = ltb-false max_uses (length uses) (clean 2 (omega arith));
  events = ltb-false max_events (length events) (clean 3 (omega arith));
}

-- o is the first part whose count is out of range
module _ (tasks locks uses events : List ℕ) (o : Option ℕ)
    (asked : o ≡ position (λ part. count_fault (index_of part) (counts_of tasks locks uses events (index_of part))) parts) where
  abbrev place : ℕ
  place = first_from (λ i. count_fault i (counts_of tasks locks uses events i)) 0 4

  found : (k : ℕ) → o ≡ Some k → (k < 4) × (k ≡ place)
  found k e = part_found (λ i. count_fault i (counts_of tasks locks uses events i)) k (sym asked ∙ e)

  absent : o ≡ None → 4 ≤ place
  absent e = part_absent (λ i. count_fault i (counts_of tasks locks uses events i)) (sym asked ∙ e)

  pub few_there : o ≡ None → Few (length tasks) (length locks) (length uses) (length events)
  few_there e = few_counts tasks locks uses events
      (λ i h. first_none (λ i. count_fault i (counts_of tasks locks uses events i)) 0 4 (omega (arith, absent e)) i (omega arith) (omega arith))

  module _ (room : ℕ) where
    abbrev b : List ℕ
    b = book_of tasks locks uses events

    pub count_refused : (e : ℕ) → o ≡ Some e → refused_at WrongCount (e + 1) ≡ first_fault (write_checks tasks locks uses events room)
    unfolding write_checks whole_checks
    count_refused e h = let (l, q) = found e h in sym (check_finds _ _ e q l ∙ ap (refused_at WrongCount) (omega arith))

    module _ (right : o ≡ None) where
      -- the counts pass, and the rest is in two parts
      rest : first_fault (write_checks tasks locks uses events room) ≡ first_fault (load_checks tasks locks uses ++ last_checks events (length b) room)
      unfolding write_checks whole_checks
      rest = check_passes _ _ place refl (absent right) ∙ ap first_fault (append_assoc (load_checks tasks locks uses) _ _)

      pub plan_refused : (r : Verdict) (f : Fault) → r ≡ Err f → loaded_with (Err f) ≡ load_of tasks locks uses
          → r ≡ first_fault (write_checks tasks locks uses events room)
      unfolding loaded_with
      plan_refused r f h e = h ∙ sym (rest ∙ check_left (load_checks tasks locks uses) _ f.why f.place
          (load_refused tasks locks uses f.why f.place (ap (λ (l : Loaded). l.verdict) (sym e))))

      pub plan_passed : (p : Plan) (size : ℕ) (r : Verdict) → loaded_with (Ok p) ≡ load_of tasks locks uses
          → size ≡ length b → r ≡ first_fault (last_checks events size room) → r ≡ first_fault (write_checks tasks locks uses events room)
      unfolding loaded_with
      plan_passed p size r e s h =
          h
          ∙ ap (λ n. first_fault (last_checks events n room)) s
          ∙ sym (rest ∙ check_right (load_checks tasks locks uses) _ (load_passed tasks locks uses (ap (λ (l : Loaded). l.verdict) (sym e))))

-- ---- the writer

module _ (tasks locks uses events out : List ℕ) where
  pub write_refused : (r : Result ℕ Fault) (f : Fault) → r ≡ Err f → Err f ≡ first_fault (write_checks tasks locks uses events (length out))
      → wrote_with r out ≡ write_of tasks locks uses events out
  unfolding write_of wrote_as wrote_with
  write_refused r f h e = ap (λ x. wrote_with x out) h ∙ ap (λ x. wrote_as x (book_of tasks locks uses events) out) e

  module _ (passed : Ok tt ≡ first_fault (write_checks tasks locks uses events (length out))) where
    pub room_for : Room tasks locks uses events out
    unfolding write_checks whole_checks check_for number_of
    room_for = record {
      few = few_counts tasks locks uses events (clean_for (write_checks tasks locks uses events (length out)) (sym passed) WrongCount);
      fits = ltb-false (length out) (length (book_of tasks locks uses events))
          (clean_for (_ ∷ []) (passed_both (whole_checks tasks locks uses events) _ (sym passed)).1 ShortBuffer 0 (omega arith));
    }

    pub write_passed : (n : ℕ) (next : List ℕ) → n ≡ length (book_of tasks locks uses events) → next ≡ book_of tasks locks uses events ++ drop n out
        → wrote_with (Ok n) next ≡ write_of tasks locks uses events out
    unfolding write_of wrote_as wrote_with
    write_passed n next q h =
        ap₂ (λ k bytes. wrote_with (Ok k) bytes) q (h ∙ ap (λ k. book_of tasks locks uses events ++ drop k out) q)
        ∙ ap (λ x. wrote_as x (book_of tasks locks uses events) out) passed
