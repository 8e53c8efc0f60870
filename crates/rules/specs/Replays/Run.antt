-- RULES 12.3 to 12.5: the run of a list of events up to its first refusal, with a row for each event before that. Assumes nothing.
use Rattle.std.specs.Prelude.{Bool, List, [], ◌∷◌, ℕ, suc, ◌+◌, ◌*◌, set, Ok, Err, if◌then◌else◌}
use Rattle.rules.specs.Numbers.Verdict.{Verdict, Answer, refused_at}
use Rattle.rules.specs.Replays.Step.{step_of}
use Rattle.rules.specs.declared.plan.Plan.{Plan}
use Rattle.rules.specs.declared.protocol.Protocol.{Protocol}
use Rattle.rules.specs.declared.state.Head.{Head}
use Rattle.rules.specs.declared.state.State.{State}
use Rattle.rules.specs.declared.event.Event.{Event}

-- RULES 12.4: the row bytes, with the four of the event at place k; h is the head after it
unfoldable pub with_row : List ℕ → ℕ → Head → Bool → List ℕ
with_row rows k h call =
    set (set (set (set rows (k * 4) h.running) (k * 4 + 1) h.user.0) (k * 4 + 2) h.next.0) (k * 4 + 3) (if call then 1 else 0)

-- where a run has come to: what was refused, the state, and the row bytes
pub record Ran : Type 0 where
  pub verdict : Verdict
  pub state : State
  pub rows : List ℕ

-- after the answer to the event at place k: an accepted one goes on to `rest`, with its state and its row
unfoldable pub onward : Answer → State → ℕ → List ℕ → (State → List ℕ → Ran) → Ran
onward (Ok call) s k rows rest = rest s (with_row rows k s.head call)
onward (Err why) s k rows rest = record { verdict = refused_at why k; state = s; rows = rows }

-- the events of a list, the first of them at place k
unfoldable pub run_from : Protocol → Plan → List Event → ℕ → State → List ℕ → Ran
run_from pr p [] k s rows = record { verdict = Ok tt; state = s; rows = rows }
run_from pr p (e ∷ es) k s rows = onward (step_of pr p s e).answer (step_of pr p s e).state k rows (run_from pr p es (suc k))
