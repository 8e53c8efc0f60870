-- Demand 1 holds. Assumes nothing.
use Rattle.std.specs.Prelude.{Ok, Err}
use Rattle.rules.specs.Numbers.Verdict.{Verdict, Tested, refused_at}
use mathlib.Core.Path.{◌≡◌, refl, sym, ◌∙◌, ap}
use mathlib.Core.Bool.{Bool, true, false}
use mathlib.Core.List.{List, [], ◌∷◌}
use Prim.Native.Nat.{ℕ, zero, suc, ◌<◌}
use native.Mathlib.Omega.{arith}
use lib.ListN.{length}
use Rattle.rules.specs.Numbers.Refusal.{number_of, first_true, Check, first_fault, check_for}
use Rattle.rules.specs.Numbers.Answer.{tested_number, answer_number, answer_calls, verdict_number}
use Rattle.rules.specs.Books.Load.{count_fault_of, record_checks, load_checks, plan_of, loaded_as, load_of}
use Rattle.rules.specs.Books.Book.{count_check, plan_in, events_of, check_of, checked_as, checked_of}
use Rattle.rules.specs.Books.Bytes.{book_of}
use Rattle.rules.specs.Books.Write.{counts_of, whole_checks, write_checks, wrote_as, write_of}
use Rattle.rules.specs.Schedulers.EventRefusals.{tests_of, release_order, acquire_order, unlock_order, work_order, finish_order, refusal_of}
use Rattle.rules.specs.Schedulers.Lazy.{words_of, lazy_call}
use Rattle.rules.specs.Soundness.SoundTest.{sound_test}
use Rattle.rules.specs.Replays.Step.{after_of, answered, act_of, step_of}
use Rattle.rules.specs.Replays.Replay.{replay_as, replay_of}
use Rattle.rules.specs.Demands.Demand1.{step_tests, StepRefuses, Judged, LoadRefuses, book_checks, BookRefuses, Untouched, ReplayRefuses}
use Rattle.rules.specs.Demands.Demand1.{writer_checks, WriteRefuses, Demand1}
use Rattle.rules.specs.declared.plan.Plan.{Plan}
use Rattle.rules.specs.declared.protocol.Protocol.{Protocol}
use Rattle.rules.specs.declared.state.State.{State}
use Rattle.rules.specs.declared.refusal.Refusal.{Refusal}
use Rattle.rules.specs.declared.refusal.Refusal.TheVariants.{WrongCount}
use Rattle.rules.specs.declared.event.Event.{Event}
use Rattle.rules.specs.declared.event.Event.TheVariants.{Release, Acquire, Unlock, Work, Finish, Tick}
use Rattle.rules.proofs.Numbers.Choice.{by_test}
use Rattle.rules.proofs.Numbers.Order.{among, once, of_test, given_exactly, number_given, none_refused}
use Rattle.rules.proofs.Numbers.Refusals.{numbered}
use Rattle.rules.proofs.Numbers.Checks.{of_check, refused_not, clean_for, spare_check, given_at_exactly, number_given_at, none_refused_at}
use Rattle.rules.proofs.Books.Loaded.{loaded_obeys}
use Rattle.rules.proofs.Books.Obeyed.{seven}
use Rattle.rules.proofs.Books.Passes.{check_is, checks_once, passed_obeys}
use Rattle.rules.proofs.Replays.OneStep.{answered_number}

-- ---- 10 to 22, of an event

-- what the tests come to, where they refuse
module _ (s after : State) (call : Bool) where
  same_state : (t : Tested) → 0 < tested_number t → (answered t s after call).state ≡ s
  unfolding answered tested_number
  same_state (Ok _) h = absurd (omega arith)
  same_state (Err why) h = refl

  no_call : (t : Tested) → 0 < tested_number t → answer_calls (answered t s after call).answer ≡ 0
  unfolding answered tested_number answer_calls
  no_call (Ok _) h = absurd (omega arith)
  no_call (Err why) h = refl

module _ (pr : Protocol) (p : Plan) (s : State) where
  tests_once : (e : Event) → once of_test (step_tests pr p s e) ≡ true
  unfolding tests_of release_order acquire_order unlock_order work_order finish_order among once number_of
  tests_once (Release t) = refl
  tests_once (Acquire l) = refl
  tests_once (Unlock l) = refl
  tests_once (Work a) = refl
  tests_once Finish = refl
  tests_once Tick = refl

  module _ (e : Event) where
    -- the step is answered by all tests in their order, 10 among them
    abbrev tested : Tested
    tested = first_true (step_tests pr p s e)

    step_is : step_of pr p s e ≡ answered tested s (after_of pr p s e) (lazy_call (words_of s) e)
    unfolding step_of act_of answered refusal_of first_true
    step_is = by_test (sound_test pr p s) (λ q. rw q refl) (λ q. rw q refl)

    step_number : answer_number (step_of pr p s e).answer ≡ tested_number tested
    step_number = rw step_is (answered_number tested s (after_of pr p s e) (lazy_call (words_of s) e))

    step_refuses : StepRefuses pr p s e (step_of pr p s e)
    unfolding tested_number
    step_refuses = record {
      exactly = λ why.
          let given = number_given tested why in
          let exact = given_exactly (step_tests pr p s e) (tests_once e) why in
          (λ q. exact.0 (given.0 (sym step_number ∙ q)), λ q. step_number ∙ given.1 (exact.1 q));
      accepts = (λ q. none_refused tested (sym step_number ∙ q), λ q. step_number ∙ ap tested_number q);
      same = λ h. rw step_is (same_state s (after_of pr p s e) (lazy_call (words_of s) e) tested (rw step_number at h));
      quiet = λ h. rw step_is (no_call s (after_of pr p s e) (lazy_call (words_of s) e) tested (rw step_number at h));
    }

-- ---- 1 to 9 and 24, of records and of books

module _ (cs : List Check) (o : once of_check cs ≡ true) where
  -- a verdict that refuses has an offender
  offended : (v : Verdict) → first_fault cs ≡ v → ((why : Refusal) (place : ℕ) → first_fault cs ≡ refused_at why place → ⊥) → verdict_number v ≡ 0
  unfolding verdict_number
  offended (Ok _) e f = refl
  offended (Err z) e f = absurd (f z.why z.place e)

  judged : Judged cs (first_fault cs)
  judged = record {
    exactly = λ why place.
        let given = number_given_at (first_fault cs) why place in
        let exact = given_at_exactly cs o why place in
        (λ q. exact.0 (given.0 q), λ q. given.1 (exact.1 q));
    passes = (
      λ q why place F.
          let G = (given_at_exactly cs o why place).1 F in
          refused_not G.refusal place (sym G.given ∙ none_refused_at (first_fault cs) q),
      λ f. offended (first_fault cs) refl (λ why place e. f why place ((given_at_exactly cs o why place).0 (record { refusal = why; given = e; number = refl }))),
    );
  }

module _ (tasks locks uses : List ℕ) where
  load_once : once of_check (load_checks tasks locks uses) ≡ true
  unfolding load_checks record_checks among once number_of
  load_once = refl

  load_refuses : LoadRefuses tasks locks uses (load_of tasks locks uses)
  unfolding load_of loaded_as verdict_number
  load_refuses = go (first_fault (load_checks tasks locks uses)) refl (judged (load_checks tasks locks uses) load_once)
    where
      go : (v : Verdict) → first_fault (load_checks tasks locks uses) ≡ v → Judged (load_checks tasks locks uses) v
          → LoadRefuses tasks locks uses (loaded_as v (plan_of tasks locks uses))
      go (Ok _) e J = record { judged = J; obeys = λ _. loaded_obeys tasks locks uses e; blank = λ h. absurd (omega arith) }
      go (Err f) e J = record {
        judged = J;
        obeys = λ q. absurd (omega (arith, (numbered f.why).0, q));
        blank = λ _. refl;
      }

module _ (b : List ℕ) (room : ℕ) where
  book_refuses : BookRefuses b room (checked_of b room)
  unfolding checked_as verdict_number
  book_refuses = go (check_of b room) refl (rw (check_is b room) (judged (book_checks b room) (checks_once b room)))
    where
      go : (v : Verdict) → check_of b room ≡ v → Judged (book_checks b room) v → BookRefuses b room (checked_as v b)
      go (Ok _) e J = record { judged = J; obeys = λ _. passed_obeys b room e; blank = λ h. absurd (omega arith) }
      go (Err f) e J = record {
        judged = J;
        obeys = λ q. absurd (omega (arith, (numbered f.why).0, q));
        blank = λ _. refl;
      }

replay_refuses : (pr : Protocol) (b rows : List ℕ) → ReplayRefuses b rows (replay_of pr b rows)
unfolding replay_of replay_as verdict_number
replay_refuses pr b rows = go (check_of b (length rows))
  where
    go : (v : Verdict) → 0 < verdict_number v → Untouched rows v (replay_as pr v (plan_in b) (events_of b) rows)
    go (Ok _) h = absurd (omega arith)
    go (Err f) h = record { number = refl; place = refl; state = refl; bytes = refl }

-- ---- 2, 4 to 7, 24, 8 and 23, of a book that is to be written

module _ (tasks locks uses events : List ℕ) where
  -- the plan's own check of the counts finds nothing that the check of all four does not
  counts_spare : first_fault (count_check (counts_of tasks locks uses events) ∷ []) ≡ Ok tt → (e : ℕ) → e < 3
      → count_fault_of (length tasks) (length locks) (length uses) e ≡ false
  unfolding check_for number_of count_fault_of
  counts_spare passed zero h = clean_for (count_check (counts_of tasks locks uses events) ∷ []) passed WrongCount 0 (omega arith)
  counts_spare passed (suc zero) h = clean_for (count_check (counts_of tasks locks uses events) ∷ []) passed WrongCount 1 (omega arith)
  counts_spare passed (suc (suc zero)) h = clean_for (count_check (counts_of tasks locks uses events) ∷ []) passed WrongCount 2 (omega arith)
  counts_spare passed (suc (suc (suc e))) h = absurd (omega arith)

  write_is : (room : ℕ) → first_fault (write_checks tasks locks uses events room) ≡ first_fault (writer_checks tasks locks uses events room)
  unfolding write_checks whole_checks load_checks record_checks
  write_is room = spare_check (count_check (counts_of tasks locks uses events) ∷ []) _ _ counts_spare

  writer_once : (room : ℕ) → once of_check (writer_checks tasks locks uses events room) ≡ true
  unfolding write_checks whole_checks load_checks record_checks among once number_of
  writer_once room = refl

  write_refuses : (buffer : List ℕ) → WriteRefuses tasks locks uses events buffer (write_of tasks locks uses events buffer)
  unfolding write_of wrote_as verdict_number
  write_refuses buffer = go (first_fault checks) (rw (write_is (length buffer)) (judged (writer_checks tasks locks uses events (length buffer))
      (writer_once (length buffer))))
    where
      checks : List Check
      checks = write_checks tasks locks uses events (length buffer)

      go : (v : Verdict) → Judged (writer_checks tasks locks uses events (length buffer)) v
          → WriteRefuses tasks locks uses events buffer (wrote_as v (book_of tasks locks uses events) buffer)
      go (Ok _) J = record { judged = J; none = λ h. absurd (omega arith); bytes = λ h. absurd (omega arith) }
      go (Err f) J = record { judged = J; none = λ _. refl; bytes = λ _. refl }

pub demand1 : Demand1
demand1 = record { step = step_refuses; seven = seven; load = load_refuses; check = book_refuses; replay = replay_refuses; write = write_refuses }
