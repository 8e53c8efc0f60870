-- RULES 9.4 to 9.11 and 10.1: the words of the lazy scheduler, its kept and saved priorities, its switch, its calls and its cut. The protocols differ in what
-- an entry to the kernel leaves in the second word (`second_word`), and in nothing else. Assumes nothing.
use Rattle.std.specs.Prelude.{◌≡◌, Bool, true, false, List, ℕ, ◌+◌, max, ltb, length, set, if◌then◌else◌}
use Rattle.rules.specs.Numbers.Capacity.{max_tasks, max_locks}
use Rattle.rules.specs.Numbers.Place.{at, greatest}
use Rattle.rules.specs.Numbers.Row.{newest, under, pushed}
use Rattle.rules.specs.Schedulers.Figures.{Figures}
use Rattle.rules.specs.Schedulers.FiguresAfter.{stays_open, left_of}
use Rattle.rules.specs.Schedulers.Elect.{elected}
use Rattle.rules.specs.Schedulers.Protocol.{second_word}
use Rattle.rules.specs.declared.plan.Plan.{Plan}
use Rattle.rules.specs.declared.protocol.Protocol.{Protocol}
use Rattle.rules.specs.declared.state.State.{State}
use Rattle.rules.specs.declared.event.Event.{Event}
use Rattle.rules.specs.declared.event.Event.TheVariants.{Release, Acquire, Unlock, Work, Finish, Tick}

-- what the lazy scheduler keeps beside the figures; `next` is the second word of either protocol
pub record Words : Type 0 where
  pub running : ℕ
  pub user : ℕ
  pub next : ℕ
  pub lazy : ℕ
  pub kept : List ℕ
  pub saved : List ℕ
  pub owner : List ℕ

-- there is a place for every task and every lock that a plan may have
pub record WordsSized (w : Words) : Type 0 where
  pub kept : length w.kept ≡ max_tasks
  pub saved : length w.saved ≡ max_tasks
  pub owner : length w.owner ≡ max_locks

abbrev pub words_of : State → Words
words_of s =
    record {
      running = s.head.running;
      user = s.head.user.0;
      next = s.head.next.0;
      lazy = s.head.lazy;
      kept = s.kept;
      saved = s.saved;
      owner = s.owner;
    }

-- the whole state of these figures and words
abbrev pub state_of : Figures → Words → State
state_of f w =
    record {
      head = record {
        accepted = f.accepted;
        running = w.running;
        user = record { 0 = w.user };
        next = record { 0 = w.next };
        lazy = w.lazy;
        eager = f.eager;
      };
      released = f.released;
      kept = w.kept;
      delay = f.delay;
      depth = f.depth;
      takes = f.takes;
      saved = w.saved;
      units = f.units;
      owner = w.owner;
    }

-- RULES 10.1: an unlock calls where the word that it puts back is strictly below the second word
unfoldable pub calls_for : ℕ → ℕ → Bool
calls_for back next = ltb back next

-- RULES 9.11: what the kernel makes of a user word, by the maximum of the task that runs: a word above it is cut back to it
unfoldable pub cut_to : (maximum user : ℕ) → ℕ
cut_to maximum user = if ltb maximum user then maximum else user

-- an entry to the kernel starts so, before anything else
unfoldable pub entering : (maximum : List ℕ) → Words → Words
entering maximum w =
    record {
      running = w.running;
      user = cut_to (at maximum w.running) w.user;
      next = w.next;
      lazy = w.lazy;
      kept = w.kept;
      saved = w.saved;
      owner = w.owner;
    }

-- the greatest priority that the kernel keeps for any of n tasks
abbrev pub best_kept : List ℕ → ℕ → ℕ
best_kept kept n = greatest (at kept) n

-- task q runs, by its kept priority; while it runs nothing is kept for it
unfoldable pub runs_on : Protocol → ℕ → List ℕ → Words → ℕ → Words
runs_on pr n kept w q =
    record {
      running = q;
      user = at kept q;
      next = second_word pr (at kept q) (best_kept (set kept q 0) n);
      lazy = w.lazy;
      kept = set kept q 0;
      saved = w.saved;
      owner = w.owner;
    }

-- RULES 9.10: a switch to the greatest of the kept priorities, the leaving task's among them; ties to the earlier release
unfoldable pub switched : Protocol → ℕ → List ℕ → List ℕ → Words → Words
switched pr n released kept w = runs_on pr n kept w (elected (at released) (at kept) n)

-- an entry without a switch: who runs goes on, and so does the user word
unfoldable pub stays : Protocol → ℕ → List ℕ → Words → Words
stays pr n kept w =
    record {
      running = w.running;
      user = w.user;
      next = second_word pr w.user (best_kept kept n);
      lazy = w.lazy;
      kept = kept;
      saved = w.saved;
      owner = w.owner;
    }

-- RULES 9.4: after the release of a task of base b, which is kept already; the kernel switches for a base strictly above the user word only
unfoldable pub after_release : Protocol → ℕ → List ℕ → List ℕ → ℕ → Words → Words
after_release pr n released kept b w = if ltb w.user b then switched pr n released (set kept w.running w.user) w else stays pr n kept w

-- RULES 9.5: lock l of this ceiling is taken; the user word is saved, at every take, and raised to the ceiling where it is below it
unfoldable pub after_acquire : ℕ → ℕ → Words → Words
after_acquire l ceiling w =
    record {
      running = w.running;
      user = max w.user ceiling;
      next = w.next;
      lazy = w.lazy;
      kept = w.kept;
      saved = set w.saved w.running (pushed (at w.saved w.running) w.user);
      owner = set w.owner l (w.running + 1);
    }

-- the word that an unlock puts back: the newest saved one
abbrev pub back_of : Words → ℕ
back_of w = newest (at w.saved w.running)

-- a take of lock l is given back, after so many calls: the user word is the saved one again, and nobody owns the lock, unless it stays open
unfoldable pub restored : (stays : Bool) → ℕ → ℕ → Words → Words
restored stays l calls w =
    record {
      running = w.running;
      user = back_of w;
      next = w.next;
      lazy = w.lazy + calls;
      kept = w.kept;
      saved = set w.saved w.running (under (at w.saved w.running));
      owner = set w.owner l (left_of stays (at w.owner l));
    }

-- the running task leaves with its word, and a switch follows
unfoldable pub leaves : Protocol → ℕ → List ℕ → Words → Words
leaves pr n released w = switched pr n released (set w.kept w.running w.user) w

-- RULES 9.6: a take of lock l is given back, with one lazy call and a switch where the call's rule says so, and with neither elsewhere. The call is an entry,
-- and finds the word that is put back
unfoldable pub after_unlock : Protocol → ℕ → (maximum released : List ℕ) → (stays : Bool) → ℕ → Words → Words
after_unlock pr n maximum released stays l w =
    if calls_for (back_of w) w.next then leaves pr n released (entering maximum (restored stays l 1 w)) else restored stays l 0 w

-- the words after an accepted event; f are the figures before it, and `released` the release numbers after it. A release, a finish and a tick are entries
unfoldable pub words_after : Protocol → Plan → Figures → (released : List ℕ) → Words → Event → Words
words_after pr p f released w (Release t) =
    after_release pr p.tasks released (set w.kept t (at p.base t)) (at p.base t) (entering p.maximum w)
words_after pr p f released w (Acquire l) = after_acquire l (at p.ceiling l) w
words_after pr p f released w (Unlock l) = after_unlock pr p.tasks p.maximum released (stays_open f w.running l) l w
words_after pr p f released w (Work a) = w
-- RULES 9.8: a finish switches, and nothing is kept for the task that is done
words_after pr p f released w Finish = switched pr p.tasks released (set w.kept w.running 0) (entering p.maximum w)
-- RULES 9.9: a tick is an entry and no more; in a sound state of the second protocol the next word is what it was
words_after pr p f released w Tick = stays pr p.tasks w.kept (entering p.maximum w)

-- RULES 10.3: whether an accepted event enters the kernel. An unlock does where it calls
unfoldable pub enters : (call : Bool) → Event → Bool
enters call (Release t) = true
enters call (Acquire l) = false
enters call (Unlock l) = call
enters call (Work a) = false
enters call Finish = true
enters call Tick = true

-- whether an accepted event makes a lazy call
unfoldable pub lazy_call : Words → Event → Bool
lazy_call w (Release t) = false
lazy_call w (Acquire l) = false
lazy_call w (Unlock l) = calls_for (back_of w) w.next
lazy_call w (Work a) = false
lazy_call w Finish = false
lazy_call w Tick = false
