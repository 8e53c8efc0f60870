-- RULES 12.3: a run of events under way: what one turn asks for, and what is left to run. Assumes nothing.
use Rattle.std.specs.Prelude.{◌≡◌, List, ℕ, ◌+◌, ◌-◌, ◌*◌, ◌≤◌, eqb, length, Ok, Err, if◌then◌else◌}
use Rattle.rules.specs.Numbers.Verdict.{Verdict, Answer}
use Rattle.rules.specs.Numbers.Answer.{found_event}
use Rattle.rules.specs.Books.Book.{found_at}
use Rattle.rules.specs.Numbers.Place.{from}
use Rattle.rules.specs.Replays.Run.{run_from}
use Rattle.rules.specs.Soundness.Sound.{SoundAndSized}
use Rattle.rules.specs.declared.plan.Plan.{Plan}
use Rattle.rules.specs.declared.protocol.Protocol.{Protocol}
use Rattle.rules.specs.declared.state.State.{State}
use Rattle.rules.specs.declared.event.Event.{Event}

-- ---- one turn

-- the event at place k of a body, and a tick where there is none
abbrev pub event_in : List ℕ → ℕ → Event
event_in body k = found_event (found_at body k)

-- the event at place k of a run: the one that is handed in, and after it those of a body
unfoldable pub event_on : Event → List ℕ → ℕ → Event
event_on first body k = if eqb k 0 then first else event_in body k

-- what a turn asks for: a sound state, and room for its row
pub record TurnReady (pr : Protocol) (p : Plan) (s : State) (rows : List ℕ) (k : ℕ) : Type 0 where
  pub sound : SoundAndSized pr p s
  pub room : k * 4 + 4 ≤ length rows

-- ---- all turns

-- what a run of n events asks for
pub record RunReady (pr : Protocol) (p : Plan) (s : State) (n : ℕ) (rows : List ℕ) : Type 0 where
  pub sound : SoundAndSized pr p s
  pub room : n * 4 ≤ length rows

-- before the event at place k, what is left comes to what all n events come to from the first state
pub record Underway (pr : Protocol) (p : Plan) (events : ℕ → Event) (n : ℕ) (first : State) (start : List ℕ) (k : ℕ) (s : State) (rows : List ℕ)
    : Type 0 where
  pub rest : run_from pr p (from events k (n - k)) k s rows ≡ run_from pr p (from events 0 n) 0 first start
  pub sound : SoundAndSized pr p s
  pub same : length rows ≡ length start

-- ---- a run of one event

-- its answer: what was refused, or whether its row has a call
unfoldable pub answer_from : Verdict → ℕ → Answer
answer_from (Ok _) call = Ok (eqb call 1)
answer_from (Err f) call = Err f.why
