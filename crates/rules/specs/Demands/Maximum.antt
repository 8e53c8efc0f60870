-- RULES 14.7: the kernel never has anything to cut. Said of every sound state, and so of every moment of every list from a fresh start. Assumes nothing.
use Rattle.std.specs.Prelude.{◌≡◌, Bool, false, ◌&&◌, List, ℕ, ◌≤◌, ltb, replicate}
use Rattle.rules.specs.Numbers.Capacity.{max_tasks}
use Rattle.rules.specs.Numbers.Place.{at}
use Rattle.rules.specs.Books.Plan.{Obeys}
use Rattle.rules.specs.Schedulers.Lazy.{Words, words_of, back_of, enters, lazy_call}
use Rattle.rules.specs.Soundness.Sound.{Sound}
use Rattle.rules.specs.Replays.Step.{after_of}
use Rattle.rules.specs.Demands.History.{lazy_at}
use Rattle.rules.specs.declared.plan.Plan.{Plan}
use Rattle.rules.specs.declared.protocol.Protocol.{Protocol}
use Rattle.rules.specs.declared.state.State.{State}
use Rattle.rules.specs.declared.event.Event.{Event}
use Rattle.rules.specs.declared.event.Event.TheVariants.{Release, Acquire, Unlock, Work, Finish, Tick}

-- the user word when event e enters the kernel: the word that an unlock has put back, else the one before the event
unfoldable pub found_word : Words → Event → ℕ
found_word w (Release t) = w.user
found_word w (Acquire l) = w.user
found_word w (Unlock l) = back_of w
found_word w (Work a) = w.user
found_word w Finish = w.user
found_word w Tick = w.user

-- event e has the kernel cut: it enters the kernel, and the word there is above the running task's maximum
unfoldable pub cuts : Plan → Words → Event → Bool
cuts p w e = enters (lazy_call w e) e && ltb (at p.maximum w.running) (found_word w e)

-- the same plan with the greatest maxima that there are, which no user word is above
abbrev pub unbounded : Plan → Plan
unbounded p =
    record {
      tasks = p.tasks;
      locks = p.locks;
      base = p.base;
      maximum = replicate max_tasks 255;
      ceiling = p.ceiling;
      limit = p.limit;
      uses = p.uses;
    }

-- what is asked of a state by a protocol, whatever event comes
pub record Uncut (pr : Protocol) (p : Plan) (s : State) : Type 0 where
  -- it does not have the kernel cut
  pub never : (e : Event) → cuts p (words_of s) e ≡ false
  -- so the maxima change nothing: the state after an event is what it would be without any
  pub same : (e : Event) → after_of pr p s e ≡ after_of pr (unbounded p) s e
  -- nor is the user word above the maximum between two entries
  pub user : s.head.user.0 ≤ at p.maximum s.head.running

pub record Maximum : Type 0 where
  pub sound : (pr : Protocol) (p : Plan) (s : State) → Sound pr p s → Uncut pr p s
  -- every list, at every place, before its event
  pub fresh : (pr : Protocol) (p : Plan) → Obeys p → (es : List Event) (k : ℕ) → Uncut pr p (lazy_at pr p es k)
