-- What is promised of the writer holds. Assumes nothing.
use Rattle.std.specs.Prelude.{Ok, Err}
use Rattle.rules.specs.Numbers.Verdict.{Verdict, refused_at}
use mathlib.Core.Path.{◌≡◌, refl, sym, ◌∙◌, ap, subst}
use mathlib.Core.List.{List, [], ◌∷◌, ◌++◌}
use Prim.Native.Nat.{ℕ, ◌+◌, ◌*◌, ◌-◌, ◌≤◌, ◌<◌}
use native.Mathlib.Omega.{arith}
use lib.Dec.{ltb}
use lib.ListN.{length, drop, length-append, length-drop}
use lib.Seq.{take-append_seam, get_or-append-add, get_or-drop}
use borrow.Author.Tests.{lt-ltb, le-ltb, ltb-false}
use Rattle.rules.specs.Numbers.Place.{at}
use Rattle.rules.specs.Numbers.Refusal.{number_of, first_fault, check_for}
use Rattle.rules.specs.Numbers.Answer.{verdict_number, verdict_place}
use Rattle.rules.specs.Books.Load.{load_checks}
use Rattle.rules.specs.Books.Book.{count_check, tasks_of, locks_of, uses_of, event_numbers_of, check_of, checked_as}
use Rattle.rules.specs.Books.Bytes.{book_of, Bytes}
use Rattle.rules.specs.Books.Write.{counts_of, whole_checks, write_checks, Wrote, wrote_as, write_of}
use Rattle.rules.specs.Demands.Written.{book_in, ReadsAs, RefusesAs, WrittenAs, WrittenBack, Writing}
use Rattle.rules.specs.declared.refusal.Refusal.{Refusal}
use Rattle.rules.specs.declared.refusal.Refusal.TheVariants.{ShortBuffer}
use Rattle.rules.proofs.Numbers.Checks.{check_none, clean_passes, clean_for, check_finds, check_left, check_right, passed_both}
use Rattle.rules.proofs.Numbers.Checks.{one_finds, none_refused_at}
use Rattle.rules.proofs.Books.Loaded.{loads_plan}
use Rattle.rules.proofs.Books.ReadBack.{tasks_back, locks_back, uses_back, numbers_back, plan_back, events_back_lem, check_back}
use Rattle.rules.proofs.Books.WriteBack.{book_again}
use Rattle.rules.proofs.Books.OfBytes.{book_bytes}
use Rattle.rules.proofs.Books.Passes.{passed_contents}
use Rattle.rules.proofs.Demands.Demand1.{demand1}

verdict_as : (v : Verdict) (b buffer : List ℕ) → (wrote_as v b buffer).verdict ≡ v
unfolding wrote_as
verdict_as (Ok _) b buffer = refl
verdict_as (Err f) b buffer = refl

module _ (tasks locks uses events : List ℕ) where
  abbrev b : List ℕ
  b = book_of tasks locks uses events

  abbrev whole : Verdict
  whole = first_fault (whole_checks tasks locks uses events)

  -- ---- the reader, with row space enough, and the writer both say what is said of the records

  module _ (room : ℕ) where
    read_refused : (why : Refusal) (place : ℕ) → whole ≡ refused_at why place → check_of b room ≡ refused_at why place
    read_refused why place e = check_back tasks locks uses events room ∙ check_left (whole_checks tasks locks uses events) _ why place e

    read_passed : length events * 4 ≤ room → whole ≡ Ok tt → check_of b room ≡ Ok tt
    read_passed fits e = check_back tasks locks uses events room ∙ check_right (whole_checks tasks locks uses events) _ e
        ∙ clean_passes _ _ (λ i h. le-ltb room (length events * 4) fits) ∙ check_none

    passed_whole : check_of b room ≡ Ok tt → whole ≡ Ok tt
    passed_whole e = (passed_both (whole_checks tasks locks uses events) _ (sym (check_back tasks locks uses events room) ∙ e)).0

    write_refused : (why : Refusal) (place : ℕ) → whole ≡ refused_at why place
        → first_fault (write_checks tasks locks uses events room) ≡ refused_at why place
    unfolding write_checks
    write_refused why place e = check_left (whole_checks tasks locks uses events) _ why place e

    write_short : whole ≡ Ok tt → room < length b → first_fault (write_checks tasks locks uses events room) ≡ refused_at ShortBuffer 0
    unfolding write_checks
    write_short e h = check_right (whole_checks tasks locks uses events) _ e
        ∙ check_finds _ _ 0 (one_finds (ltb room (length b)) (lt-ltb room (length b) h)) (omega arith)

    write_passes : whole ≡ Ok tt → length b ≤ room → first_fault (write_checks tasks locks uses events room) ≡ Ok tt
    unfolding write_checks
    write_passes e h = check_right (whole_checks tasks locks uses events) _ e ∙ clean_passes _ _ (λ i _. le-ltb room (length b) h) ∙ check_none

    -- where the writer writes, the records pass and there is room
    wrote_passed : first_fault (write_checks tasks locks uses events room) ≡ Ok tt → (whole ≡ Ok tt) × (length b ≤ room)
    unfolding write_checks check_for number_of
    wrote_passed e =
        let (x, y) = passed_both (whole_checks tasks locks uses events) _ e in
        (x, ltb-false room (length b) (clean_for (_ ∷ []) y ShortBuffer 0 (omega arith)))

  -- ---- the book reads as the records

  reads_as : whole ≡ Ok tt → ReadsAs tasks locks uses events b
  unfolding checked_as verdict_number whole_checks
  reads_as e =
      let loads : first_fault (load_checks tasks locks uses) ≡ Ok tt = (passed_both (load_checks tasks locks uses) _
      (passed_both (count_check (counts_of tasks locks uses events) ∷ []) _ e).1).0 in
      record {
        accepted = λ room fits. ap (λ v. verdict_number (checked_as v b).verdict) (read_passed room fits e);
        plan = λ room fits. ap (λ v. (checked_as v b).plan) (read_passed room fits e) ∙ plan_back tasks locks uses events
            ∙ sym (loads_plan tasks locks uses loads);
        list = events_back_lem tasks locks uses events;
        records = (
          tasks_back tasks locks uses events,
          locks_back tasks locks uses events,
          uses_back tasks locks uses events,
          numbers_back tasks locks uses events,
        );
      }

  module _ (buffer : List ℕ) where
    abbrev w : Wrote
    w = write_of tasks locks uses events buffer

    -- what is written is as the verdict says
    verdict_is : w.verdict ≡ first_fault (write_checks tasks locks uses events (length buffer))
    unfolding write_of
    verdict_is = verdict_as (first_fault (write_checks tasks locks uses events (length buffer))) b buffer

    module _ (e : verdict_number w.verdict ≡ 0) where
      passes : first_fault (write_checks tasks locks uses events (length buffer)) ≡ Ok tt
      passes = none_refused_at _ (ap verdict_number (sym verdict_is) ∙ e)

      length_is : w.length ≡ length b
      unfolding write_of wrote_as
      length_is = ap (λ v. (wrote_as v b buffer).length) passes

      in_buffer : book_in w ≡ b
      unfolding write_of wrote_as
      in_buffer = ap (λ v. book_in (wrote_as v b buffer)) passes ∙ take-append_seam b (drop (length b) buffer)

    -- what the reader refuses, the writer refuses
    same_refusal : (room : ℕ) → length events * 4 ≤ room → 0 < verdict_number (check_of b room) → w.verdict ≡ check_of b room
    unfolding verdict_number
    same_refusal room fits h = go whole refl
      where
        go : (v : Verdict) → whole ≡ v → w.verdict ≡ check_of b room
        go (Ok _) e = absurd (omega (arith, h, ap verdict_number (read_passed room fits e)))
        go (Err f) e = verdict_is ∙ write_refused (length buffer) f.why f.place e ∙ sym (read_refused room f.why f.place e)

    module _ (room : ℕ) (e : verdict_number (check_of b room) ≡ 0) where
      records_pass : whole ≡ Ok tt
      records_pass = passed_whole room (none_refused_at (check_of b room) e)

      short : length buffer < length b → w.verdict ≡ refused_at ShortBuffer 0
      short h = verdict_is ∙ write_short (length buffer) records_pass h

      enough : length b ≤ length buffer → w.verdict ≡ Ok tt
      enough h = verdict_is ∙ write_passes (length buffer) records_pass h

    refuses_as : RefusesAs tasks locks uses events buffer w
    unfolding verdict_number verdict_place number_of
    refuses_as = record {
      number = λ room fits h. ap verdict_number (same_refusal room fits h);
      place = λ room fits h. ap verdict_place (same_refusal room fits h);
      short = λ room e h. (ap verdict_number (short room e h), ap verdict_place (short room e h));
      enough = λ room e h. ap verdict_number (enough room e h);
    }

    -- the bytes after the book
    stays : (i : ℕ) → w.length ≤ i → at w.bytes i ≡ at buffer i
    unfolding write_of wrote_as
    stays = go (first_fault (write_checks tasks locks uses events (length buffer)))
      where
        go : (v : Verdict) (i : ℕ) → (wrote_as v b buffer).length ≤ i → at (wrote_as v b buffer).bytes i ≡ at buffer i
        go (Ok _) i h =
            let e : i ≡ length b + (i - length b) = omega (arith, h) in
            ap (at (b ++ drop (length b) buffer)) e ∙ get_or-append-add b (drop (length b) buffer) (i - length b) 0
            ∙ get_or-drop (length b) buffer (i - length b) 0 ∙ ap (at buffer) (sym e)
        go (Err f) i h = refl

    sized : length w.bytes ≡ length buffer
    unfolding write_of wrote_as
    sized = go (first_fault (write_checks tasks locks uses events (length buffer))) refl
      where
        go : (v : Verdict) → first_fault (write_checks tasks locks uses events (length buffer)) ≡ v → length (wrote_as v b buffer).bytes ≡ length buffer
        go (Ok _) e = omega (
          arith,
          length-append b (drop (length b) buffer),
          length-drop (length b) buffer,
          (wrote_passed (length buffer) e).1,
        )
        go (Err f) e = refl

    written_as : WrittenAs tasks locks uses events buffer w
    written_as = record {
      book = in_buffer;
      reads = λ e. subst (ReadsAs tasks locks uses events) (sym (in_buffer e)) (reads_as (wrote_passed (length buffer) (passes e)).0);
      bytes = book_bytes tasks locks uses events;
      none = (demand1.write tasks locks uses events buffer).none;
      stay = stays;
      size = sized;
      refuses = refuses_as;
    }

-- ---- an accepted book of bytes, written again

module _ (c : List ℕ) (room : ℕ) (buffer : List ℕ) (of-bytes : Bytes c) (e : verdict_number (check_of c room) ≡ 0) (h : length c ≤ length buffer) where
  again : book_of (tasks_of c) (locks_of c) (uses_of c) (event_numbers_of c) ≡ c
  again = book_again c of-bytes (passed_contents c room (none_refused_at (check_of c room) e))

  written : (write_of (tasks_of c) (locks_of c) (uses_of c) (event_numbers_of c) buffer).verdict ≡ Ok tt
  written = enough (tasks_of c) (locks_of c) (uses_of c) (event_numbers_of c) buffer room (rw again e) (rw again h)

  written_back : WrittenBack c (write_of (tasks_of c) (locks_of c) (uses_of c) (event_numbers_of c) buffer)
  unfolding verdict_number
  written_back = record {
    accepted = ap verdict_number written;
    size = length_is (tasks_of c) (locks_of c) (uses_of c) (event_numbers_of c) buffer (ap verdict_number written) ∙ ap length again;
    book = in_buffer (tasks_of c) (locks_of c) (uses_of c) (event_numbers_of c) buffer (ap verdict_number written) ∙ again;
  }

pub writing : Writing
writing = record { written = written_as; again = written_back }
