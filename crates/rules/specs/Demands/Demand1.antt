-- RULES 14.1: whatever is handed in, a refusal is given with its number, at its place, exactly where its own test holds and none before it does; and a
-- refusal changes nothing. Assumes nothing.
use Rattle.std.specs.Prelude.{◌≡◌, ◌↔◌, Bool, true, false, not, List, ◌∷◌, ◌++◌, ℕ, ◌<◌, length, take, drop, Ok}
use Rattle.rules.specs.Numbers.Verdict.{Verdict}
use Rattle.rules.specs.Numbers.Refusal.{number_of, first_true, test_for, tests_before, Check, Offended}
use Rattle.rules.specs.Numbers.Answer.{answer_number, answer_calls, verdict_number, verdict_place}
use Rattle.rules.specs.Numbers.Place.{at}
use Rattle.rules.specs.Books.Plan.{Shared, users_base, ceiling_fault, Obeys}
use Rattle.rules.specs.Books.Load.{blank_plan, load_checks, load_of}
use Rattle.rules.specs.Books.Book.{tasks_of, locks_of, uses_of, contents_checks, event_checks, check_of, checked_of}
use Rattle.rules.specs.Books.Write.{write_checks, Wrote, write_of}
use Rattle.rules.specs.Schedulers.State.{fresh_of}
use Rattle.rules.specs.Schedulers.Figures.{figures_of}
use Rattle.rules.specs.Schedulers.EventRefusals.{all_tests}
use Rattle.rules.specs.Soundness.SoundTest.{sound_test}
use Rattle.rules.specs.Replays.Step.{step_of}
use Rattle.rules.specs.Replays.Run.{Ran}
use Rattle.rules.specs.Replays.Replay.{replay_of}
use Rattle.rules.specs.declared.plan.Plan.{Plan}
use Rattle.rules.specs.declared.protocol.Protocol.{Protocol}
use Rattle.rules.specs.declared.state.State.{State}
use Rattle.rules.specs.declared.event.Event.{Event}
use Rattle.rules.specs.declared.refusal.Refusal.{Refusal}
use Rattle.rules.specs.declared.refusal.Refusal.TheVariants.{Unsound}
use Rattle.rules.specs.declared.answer.Stepped.{Stepped}
use Rattle.rules.specs.Books.Load.{Loaded}
use Rattle.rules.specs.Books.Book.{Checked}

-- ---- 10 to 22, of an event

-- the tests in their order: 10 first, then 11, then those of the event
abbrev pub step_tests : Protocol → Plan → State → Event → List (Bool × Refusal)
step_tests pr p s e = (not (sound_test pr p s), Unsound) ∷ all_tests p (figures_of s) s.head.running e

-- what is asked of the answer r to event e in state s of plan p, all three of any kind, by either protocol. Refusals are numbered from 1; 0 says that nothing
-- is refused
pub record StepRefuses (pr : Protocol) (p : Plan) (s : State) (e : Event) (r : Stepped) : Type 0 where
  -- a number is given exactly where its test holds and none before it does, and 0 exactly where no test holds
  pub exactly : (why : Refusal)
      → (answer_number r.answer ≡ number_of why)
      ↔ ((test_for why (step_tests pr p s e) ≡ true) × (first_true (tests_before why (step_tests pr p s e)) ≡ Ok tt))
  pub accepts : (answer_number r.answer ≡ 0) ↔ (first_true (step_tests pr p s e) ≡ Ok tt)
  -- a refused event gives the very state back, and calls nothing
  pub same : 0 < answer_number r.answer → r.state ≡ s
  pub quiet : 0 < answer_number r.answer → answer_calls r.answer ≡ 0

-- ---- 1 to 9 and 24, of records and of books

-- a number and a place are given exactly where the check of that number finds its first offender there and those before it find none; and 0 exactly where
-- no check finds one
pub record Judged (checks : List Check) (verdict : Verdict) : Type 0 where
  pub exactly : (why : Refusal) (place : ℕ)
      → ((verdict_number verdict ≡ number_of why) × (verdict_place verdict ≡ place)) ↔ Offended why place checks
  pub passes : (verdict_number verdict ≡ 0) ↔ ((why : Refusal) (place : ℕ) → Offended why place checks → ⊥)

-- 2, 4 to 7 and 24: the load of a plan's records
pub record LoadRefuses (tasks locks uses : List ℕ) (r : Loaded) : Type 0 where
  pub judged : Judged (load_checks tasks locks uses) r.verdict
  -- a plan that is loaded obeys the rules, and beside a refusal there is a blank one
  pub obeys : verdict_number r.verdict ≡ 0 → Obeys r.plan
  pub blank : 0 < verdict_number r.verdict → r.plan ≡ blank_plan

-- a check for each of 1 to 9 and 24; the contents have the counts already, so the records' own check of them is left out
abbrev pub book_checks : List ℕ → ℕ → List Check
book_checks b room = contents_checks b ++ drop 1 (load_checks (tasks_of b) (locks_of b) (uses_of b) ++ event_checks b room)

-- 1 to 9 and 24: the check of a book that is to be replayed with so much row space
pub record BookRefuses (b : List ℕ) (room : ℕ) (r : Checked) : Type 0 where
  pub judged : Judged (book_checks b room) r.verdict
  pub obeys : verdict_number r.verdict ≡ 0 → Obeys r.plan
  pub blank : 0 < verdict_number r.verdict → r.plan ≡ blank_plan

-- what the replay of a book comes to that is refused by one of them: that refusal, no state but a fresh one, and every row byte as it was
pub record Untouched (rows : List ℕ) (verdict : Verdict) (ran : Ran) : Type 0 where
  pub number : verdict_number ran.verdict ≡ verdict_number verdict
  pub place : verdict_place ran.verdict ≡ verdict_place verdict
  pub state : ran.state ≡ fresh_of
  pub bytes : ran.rows ≡ rows

abbrev pub ReplayRefuses : List ℕ → List ℕ → Ran → Type 0
ReplayRefuses b rows ran = 0 < verdict_number (check_of b (length rows)) → Untouched rows (check_of b (length rows)) ran

-- ---- 2, 4 to 7, 24, 8 and 23, of a book that is to be written

-- a check for each of them; the counts are checked with the events', so the plan's own check of them is left out
abbrev pub writer_checks : (tasks locks uses events : List ℕ) → ℕ → List Check
writer_checks tasks locks uses events room =
    take 1 (write_checks tasks locks uses events room) ++ drop 2 (write_checks tasks locks uses events room)

-- what is asked of w, which the writer made of these records and this buffer: a refusal leaves every byte
pub record WriteRefuses (tasks locks uses events buffer : List ℕ) (w : Wrote) : Type 0 where
  pub judged : Judged (writer_checks tasks locks uses events (length buffer)) w.verdict
  pub none : 0 < verdict_number w.verdict → w.length ≡ 0
  pub bytes : 0 < verdict_number w.verdict → w.bytes ≡ buffer

pub record Demand1 : Type 0 where
  pub step : (pr : Protocol) (p : Plan) (s : State) (e : Event) → StepRefuses pr p s e (step_of pr p s e)
  -- 7 passes a lock exactly where two different tasks may take it and its ceiling is the highest base of its users
  pub seven : (p : Plan) (l : ℕ) → (ceiling_fault p l ≡ false) ↔ (Shared p l × (at p.ceiling l ≡ users_base p l))
  pub load : (tasks locks uses : List ℕ) → LoadRefuses tasks locks uses (load_of tasks locks uses)
  pub check : (b : List ℕ) (room : ℕ) → BookRefuses b room (checked_of b room)
  pub replay : (pr : Protocol) (b rows : List ℕ) → ReplayRefuses b rows (replay_of pr b rows)
  pub write : (tasks locks uses events buffer : List ℕ) → WriteRefuses tasks locks uses events buffer (write_of tasks locks uses events buffer)
