-- RULES 14.8: a take of a lock that the running task has open raises nothing and calls nobody, and with its own unlock the state is what it was.
-- Assumes nothing.
use Rattle.std.specs.Prelude.{◌≡◌, true, List, ℕ, ◌+◌, ◌<◌, set}
use Rattle.rules.specs.Numbers.Capacity.{max_takes, max_accepted}
use Rattle.rules.specs.Numbers.Place.{at}
use Rattle.rules.specs.Numbers.Row.{pushed}
use Rattle.rules.specs.Numbers.Answer.{answer_number, answer_calls}
use Rattle.rules.specs.Books.Plan.{Obeys}
use Rattle.rules.specs.Schedulers.Figures.{figures_of, holds}
use Rattle.rules.specs.Replays.Step.{step_of}
use Rattle.rules.specs.Demands.History.{eager_at, lazy_at, runner_at}
use Rattle.rules.specs.declared.plan.Plan.{Plan}
use Rattle.rules.specs.declared.protocol.Protocol.{Protocol}
use Rattle.rules.specs.declared.state.State.{State}
use Rattle.rules.specs.declared.event.Event.{Event}
use Rattle.rules.specs.declared.event.Event.TheVariants.{Acquire, Unlock}

-- state t is state s one accepted event later, and differs in nothing else but in rows of takes and of saved words
pub record RowsOnly (s t : State) : Type 0 where
  pub accepted : t.head.accepted ≡ s.head.accepted + 1
  pub running : t.head.running ≡ s.head.running
  pub user : t.head.user.0 ≡ s.head.user.0
  pub next : t.head.next.0 ≡ s.head.next.0
  pub lazy : t.head.lazy ≡ s.head.lazy
  pub eager : t.head.eager ≡ s.head.eager
  pub released : t.released ≡ s.released
  pub kept : t.kept ≡ s.kept
  pub delay : t.delay ≡ s.delay
  pub units : t.units ≡ s.units
  pub owner : t.owner ≡ s.owner

-- the running task has a take of lock l more, and the user word is saved with it
pub record OneMore (s t : State) (l : ℕ) : Type 0 where
  pub depth : t.depth ≡ set s.depth s.head.running (at s.depth s.head.running + 1)
  pub takes : t.takes ≡ set s.takes s.head.running (pushed (at s.takes s.head.running) l)
  pub saved : t.saved ≡ set s.saved s.head.running (pushed (at s.saved s.head.running) s.head.user.0)

-- the same state, so many accepted events later
abbrev pub later : ℕ → State → State
later n s =
    record {
      head = record {
        accepted = s.head.accepted + n;
        running = s.head.running;
        user = s.head.user;
        next = s.head.next;
        lazy = s.head.lazy;
        eager = s.head.eager;
      };
      released = s.released;
      kept = s.kept;
      delay = s.delay;
      depth = s.depth;
      takes = s.takes;
      saved = s.saved;
      units = s.units;
      owner = s.owner;
    }

-- what is asked of state s, in which the running task has lock l open
pub record TakenAgain (pr : Protocol) (p : Plan) (s : State) (l : ℕ) : Type 0 where
  -- the acquire of l is accepted where there is room for a take and for an event
  pub accepts : at s.depth s.head.running < max_takes → s.head.accepted < max_accepted → answer_number (step_of pr p s (Acquire l)).answer ≡ 0
  -- it raises nothing
  pub taken : answer_number (step_of pr p s (Acquire l)).answer ≡ 0
      → RowsOnly s (step_of pr p s (Acquire l)).state × OneMore s (step_of pr p s (Acquire l)).state l
  -- an unlock of l after which it is open still lowers nothing, and calls nobody
  pub given : answer_number (step_of pr p s (Unlock l)).answer ≡ 0 → holds (figures_of (step_of pr p s (Unlock l)).state) s.head.running l ≡ true
      → RowsOnly s (step_of pr p s (Unlock l)).state × (answer_calls (step_of pr p s (Unlock l)).answer ≡ 0)
  -- one after the other they change nothing but the count of accepted events
  pub undone : answer_number (step_of pr p s (Acquire l)).answer ≡ 0 → answer_number (step_of pr p (step_of pr p s (Acquire l)).state (Unlock l)).answer ≡ 0
      → (step_of pr p (step_of pr p s (Acquire l)).state (Unlock l)).state ≡ later 2 s

-- by either protocol, at every place of every list from a fresh start
abbrev pub Again : Type 0
Again = (pr : Protocol) (p : Plan) → Obeys p → (es : List Event) (k l : ℕ) → holds (eager_at p es k) (runner_at p es k) l ≡ true
    → TakenAgain pr p (lazy_at pr p es k) l
