-- RULES 9.4 to 9.9 and 10.2: what an accepted event makes of the figures, its eager calls among them, with task r running. Both schedulers use it.
-- Assumes nothing.
use Rattle.std.specs.Prelude.{Bool, ◌&&◌, ℕ, ◌+◌, ◌-◌, min, eqb, ltb, set, if◌then◌else◌}
use Rattle.rules.specs.Numbers.Capacity.{max_delay}
use Rattle.rules.specs.Numbers.Place.{at, renewed}
use Rattle.rules.specs.Numbers.Row.{under, pushed, has}
use Rattle.rules.specs.Schedulers.Figures.{Figures, holds, priority_of}
use Rattle.rules.specs.declared.plan.Plan.{Plan}
use Rattle.rules.specs.declared.event.Event.{Event}
use Rattle.rules.specs.declared.event.Event.TheVariants.{Release, Acquire, Unlock, Work, Finish, Tick}

-- RULES 10.2: one call where the priority before differs from the one after
unfoldable pub differs : ℕ → ℕ → ℕ
differs before after = if eqb before after then 0 else 1

-- the eager calls of an event: one for an acquire or an unlock after which the priority of task r, which acts, differs from before. f are the figures
-- before the event, and g after it
unfoldable pub eager_calls : Plan → Figures → Figures → ℕ → Event → ℕ
eager_calls p f g r (Release t) = 0
eager_calls p f g r (Acquire l) = differs (priority_of p f r) (priority_of p g r)
eager_calls p f g r (Unlock l) = differs (priority_of p f r) (priority_of p g r)
eager_calls p f g r (Work a) = 0
eager_calls p f g r Finish = 0
eager_calls p f g r Tick = 0

-- the figures after an event, with its calls counted; g has all else of them, and the count before
abbrev counted : Plan → Figures → ℕ → Event → Figures → Figures
counted p f r e g =
    record {
      accepted = g.accepted;
      eager = g.eager + eager_calls p f g r e;
      released = g.released;
      delay = g.delay;
      depth = g.depth;
      takes = g.takes;
      units = g.units;
    }

-- RULES 9.6: lock l stays open when task r gives its newest take back: the rest of its row has another take of it
unfoldable pub stays_open : Figures → ℕ → ℕ → Bool
stays_open f r l = has (under (at f.takes r)) (at f.depth r - 1) l

-- what the units of a section, or the owner of its lock, are after an unlock: as they were where the lock stays open, else 0
unfoldable pub left_of : (stays : Bool) → ℕ → ℕ
left_of stays v = if stays then v else 0

-- RULES 9.7: the units of lock l after a units by task r, which count once for each lock that it has open
unfoldable pub charged : Figures → ℕ → ℕ → ℕ → ℕ
charged f r a l = if holds f r l then at f.units l + a else at f.units l

-- the delay of task t after a units by task r: they count where t is released and of strictly greater base
unfoldable pub delayed : Plan → Figures → ℕ → ℕ → ℕ → ℕ
delayed p f r a t = if ltb 0 (at f.released t) && ltb (at p.base r) (at p.base t) then min max_delay (at f.delay t + a) else at f.delay t

unfoldable pub figures_after : Plan → Figures → ℕ → Event → Figures
-- the newcomer's release number is the new count of accepted events, and its delay starts anew
figures_after p f r (Release t) =
    counted p f r (Release t) (record {
      accepted = f.accepted + 1;
      eager = f.eager;
      released = set f.released t (f.accepted + 1);
      delay = set f.delay t 0;
      depth = f.depth;
      takes = f.takes;
      units = f.units;
    })
figures_after p f r (Acquire l) =
    counted p f r (Acquire l) (record {
      accepted = f.accepted + 1;
      eager = f.eager;
      released = f.released;
      delay = f.delay;
      depth = set f.depth r (at f.depth r + 1);
      takes = set f.takes r (pushed (at f.takes r) l);
      units = f.units;
    })
-- the newest take is given back; with the last one of its lock the section is over, and the lock has no units
figures_after p f r (Unlock l) =
    counted p f r (Unlock l) (record {
      accepted = f.accepted + 1;
      eager = f.eager;
      released = f.released;
      delay = f.delay;
      depth = set f.depth r (at f.depth r - 1);
      takes = set f.takes r (under (at f.takes r));
      units = set f.units l (left_of (stays_open f r l) (at f.units l));
    })
figures_after p f r (Work a) =
    counted p f r (Work a) (record {
      accepted = f.accepted + 1;
      eager = f.eager;
      released = f.released;
      delay = renewed f.delay (delayed p f r a) p.tasks;
      depth = f.depth;
      takes = f.takes;
      units = renewed f.units (charged f r a) p.locks;
    })
-- the finished task has no lock open, so its release number is all that is left to clear; its delay stays
figures_after p f r Finish =
    counted p f r Finish (record {
      accepted = f.accepted + 1;
      eager = f.eager;
      released = set f.released r 0;
      delay = f.delay;
      depth = f.depth;
      takes = f.takes;
      units = f.units;
    })
-- a tick is counted as an event, and that is all
figures_after p f r Tick =
    counted p f r Tick (record {
      accepted = f.accepted + 1;
      eager = f.eager;
      released = f.released;
      delay = f.delay;
      depth = f.depth;
      takes = f.takes;
      units = f.units;
    })
