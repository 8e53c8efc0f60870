-- RULES 9: what the code of the events is handed, and what it makes of a state. Assumes nothing.
use Rattle.std.specs.Prelude.{◌≡◌, ◌≢◌, ℕ, ◌+◌, ◌-◌, ◌≤◌, ◌<◌, max, set, Ok}
use Rattle.rules.specs.Numbers.Capacity.{max_tasks}
use Rattle.rules.specs.Numbers.Place.{at, renewed}
use Rattle.rules.specs.Numbers.Row.{under}
use Rattle.rules.specs.Schedulers.EventRefusals.{refusal_of}
use Rattle.rules.specs.Schedulers.Figures.{figures_of}
use Rattle.rules.specs.Schedulers.FiguresAfter.{differs, delayed, figures_after, stays_open, left_of}
use Rattle.rules.specs.Schedulers.Lazy.{Words, words_of, state_of, back_of, restored, words_after}
use Rattle.rules.specs.Soundness.Sound.{SoundAndSized}
use Rattle.rules.specs.declared.plan.Plan.{Plan}
use Rattle.rules.specs.declared.protocol.Protocol.{Protocol}
use Rattle.rules.specs.declared.state.State.{State}
use Rattle.rules.specs.declared.event.Event.{Event}
use Rattle.rules.specs.declared.priority.UserPriority.{UserPriority}
use Rattle.kernel.specs.Work.{charged_row}

-- a state that is sound by one of the protocols
pub record IsSound (p : Plan) (s : State) : Type 0 where
  pub protocol : Protocol
  pub sound : SoundAndSized protocol p s

-- a state with another user word
abbrev pub with_user : State → UserPriority → State
with_user s user = record s { head = record s.head { user = user } }

-- a state that is sound by one of the protocols, but for its user word: that may be any
pub record IsSoundButForUser (p : Plan) (s : State) : Type 0 where
  pub protocol : Protocol
  pub user : UserPriority
  pub sound : SoundAndSized protocol p (with_user s user)

-- a sound state in which the event is accepted
pub record Accepts (p : Plan) (s : State) (e : Event) : Type 0 where
  pub protocol : Protocol
  pub sound : SoundAndSized protocol p s
  pub passed : refusal_of p (figures_of s) s.head.running e ≡ Ok tt

-- a state's figures, with other words
abbrev pub with_words : State → Words → State
with_words s w = state_of (figures_of s) w

-- nobody's word is 0
abbrev pub IdleWord : State → Type 0
IdleWord s = max_tasks ≤ s.head.running → s.head.user.0 ≡ 0

-- a newcomer t of n tasks and another task that runs, or no user word: nothing is kept for either
pub record Arrives (n : ℕ) (s : State) (t : ℕ) : Type 0 where
  pub known : t < n
  pub none : at s.kept t ≡ 0
  pub other : t ≢ s.head.running
  pub left : at s.kept s.head.running ≡ 0
  pub idle : n ≤ s.head.running → s.head.user.0 ≡ 0

-- the state where the running task's newest take, which is of lock l, is given back, and nothing is counted yet
abbrev pub given_back : ℕ → State → State
given_back l s =
    state_of
    (record {
      accepted = s.head.accepted;
      eager = s.head.eager;
      released = s.released;
      delay = s.delay;
      depth = set s.depth s.head.running (at s.depth s.head.running - 1);
      takes = set s.takes s.head.running (under (at s.takes s.head.running));
      units = set s.units l (left_of (stays_open (figures_of s) s.head.running l) (at s.units l));
    })
    (restored (stays_open (figures_of s) s.head.running l) l 0 (words_of s))

-- ---- the eager calls, as the code tells them: from the user word before an acquire or an unlock and the one that it leaves

abbrev pub calls_at_acquire : Plan → State → ℕ → ℕ
calls_at_acquire p s l = differs s.head.user.0 (max s.head.user.0 (at p.ceiling l))

abbrev pub calls_at_unlock : State → ℕ
calls_at_unlock s = differs s.head.user.0 (back_of (words_of s))

-- the state after an event, with so many eager calls more; in a sound state it is `after_of`
unfoldable pub told_of : Protocol → Plan → State → Event → ℕ → State
told_of pr p s e calls =
    state_of (record (figures_after p (figures_of s) s.head.running e) { eager = s.head.eager + calls })
    (words_after pr p (figures_of s) (figures_after p (figures_of s) s.head.running e).released (words_of s) e)

-- the state after work of a units, charged along the row of takes; in a sound state it is `after_of`
abbrev pub worked : Plan → State → ℕ → State
worked p s a = record s {
  head = record s.head { accepted = s.head.accepted + 1 };
  delay = renewed s.delay (delayed p (figures_of s) s.head.running a) p.tasks;
  units = charged_row s.units a (at s.takes s.head.running) (at s.depth s.head.running);
}
