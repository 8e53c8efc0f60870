-- What RULES 14 speaks of: the history of a list of events from a fresh start. A place is an event's number in the list, from 0; a refused event
-- changes nothing. Assumes nothing.
use Rattle.std.specs.Prelude.{Bool, not, ◌&&◌, List, ℕ, zero, suc, ◌+◌, eqb, ltb, get_or, if◌then◌else◌}
use Rattle.rules.specs.Numbers.Place.{at, any, sum}
use Rattle.rules.specs.Schedulers.State.{fresh_of}
use Rattle.rules.specs.Schedulers.Figures.{Figures, fresh_figures, priority_of, rank_of}
use Rattle.rules.specs.Schedulers.FiguresAfter.{eager_calls, figures_after}
use Rattle.rules.specs.Schedulers.Eager.{running_of, eager_test, eager_step}
use Rattle.rules.specs.Schedulers.Lazy.{enters}
use Rattle.rules.specs.Replays.Step.{step_of}
use Rattle.rules.specs.Numbers.Answer.{passes}
use Rattle.rules.specs.declared.plan.Plan.{Plan}
use Rattle.rules.specs.declared.protocol.Protocol.{Protocol}
use Rattle.rules.specs.declared.protocol.Protocol.TheVariants.{Second, First}
use Rattle.rules.specs.declared.state.State.{State}
use Rattle.rules.specs.declared.event.Event.{Event}
use Rattle.rules.specs.declared.event.Event.TheVariants.{Release, Acquire, Unlock, Work, Finish, Tick}

-- the event at place k; past the list's end it is a tick, which lets who runs go on
abbrev pub event_at : List Event → ℕ → Event
event_at es k = get_or es k Tick

-- the eager scheduler at place k, before its event
unfoldable pub eager_at : Plan → List Event → ℕ → Figures
eager_at p es zero = fresh_figures
eager_at p es (suc k) = eager_step p (eager_at p es k) (event_at es k)

-- and the lazy scheduler, by either protocol
unfoldable pub lazy_at : Protocol → Plan → List Event → ℕ → State
lazy_at pr p es zero = fresh_of
lazy_at pr p es (suc k) = (step_of pr p (lazy_at pr p es k) (event_at es k)).state

-- the eager scheduler's running task at place k
abbrev pub runner_at : Plan → List Event → ℕ → ℕ
runner_at p es k = running_of p (eager_at p es k)

-- the eager scheduler accepts the event at place k
unfoldable pub accepted_at : Plan → List Event → ℕ → Bool
accepted_at p es k = passes (eager_test p (eager_at p es k) (event_at es k))

-- ---- calls

-- another released task strictly outranks the priority that r has in g; f are the figures before
unfoldable pub outranked : Plan → Figures → Figures → ℕ → Bool
outranked p f g r = any (λ y. not (eqb y r) && ltb (priority_of p g r) (rank_of p f y)) p.tasks

-- the priority that the running task has after it unlocks l
abbrev pub restored_of : Plan → Figures → ℕ → ℕ
restored_of p f l = priority_of p (figures_after p f (running_of p f) (Unlock l)) (running_of p f)

-- whether an unlock of l is to call: where another released task is strictly above the restored priority (second protocol), or where the kernel word is,
-- which is `word` (first protocol)
unfoldable pub call_rule : Protocol → Plan → Figures → (word : ℕ) → ℕ → Bool
call_rule Second p f word l = outranked p f (figures_after p f (running_of p f) (Unlock l)) (running_of p f)
call_rule First p f word l = ltb (restored_of p f l) word

-- the lazy calls that the rule asks for: at an unlock only
unfoldable pub calls_due : Protocol → Plan → Figures → (word : ℕ) → Event → ℕ
calls_due pr p f word (Release t) = 0
calls_due pr p f word (Acquire l) = 0
calls_due pr p f word (Unlock l) = if call_rule pr p f word l then 1 else 0
calls_due pr p f word (Work a) = 0
calls_due pr p f word Finish = 0
calls_due pr p f word Tick = 0

-- the first protocol's kernel word at place k: the priority of the task that ran after the latest entry to the kernel before that place
unfoldable pub kernel_at : Plan → List Event → ℕ → ℕ
kernel_at p es zero = 0
kernel_at p es (suc k) =
    if accepted_at p es k && enters (eqb (calls_due First p (eager_at p es k) (kernel_at p es k) (event_at es k)) 1) (event_at es k)
    then rank_of p (eager_at p es (suc k)) (runner_at p es (suc k)) else kernel_at p es k

-- the lazy calls that the rule asks for at place k
abbrev pub calls_at : Protocol → Plan → List Event → ℕ → ℕ
calls_at pr p es k = calls_due pr p (eager_at p es k) (kernel_at p es k) (event_at es k)

-- both counts, over the accepted events before place k; the eager calls of an event go by the priorities before it and after it
unfoldable pub lazy_count : Protocol → Plan → List Event → ℕ → ℕ
lazy_count pr p es k = sum (λ j. if accepted_at p es j then calls_at pr p es j else 0) k

unfoldable pub eager_count : Plan → List Event → ℕ → ℕ
eager_count p es k =
    sum (λ j. if accepted_at p es j then eager_calls p (eager_at p es j) (eager_at p es (suc j)) (runner_at p es j) (event_at es j) else 0) k

-- ---- delay

-- what the accepted event e, in a state of figures f, makes of the count c of units worked by tasks of lower base since t's latest release
unfoldable pub delay_next : Plan → Figures → Event → ℕ → ℕ → ℕ
delay_next p f (Release x) t c = if eqb x t then 0 else c
delay_next p f (Acquire l) t c = c
delay_next p f (Unlock l) t c = c
delay_next p f (Work a) t c = if ltb 0 (at f.released t) && ltb (at p.base (running_of p f)) (at p.base t) then c + a else c
delay_next p f Finish t c = c
delay_next p f Tick t c = c

-- that count over the events before place k
unfoldable pub delay_count : Plan → List Event → ℕ → ℕ → ℕ
delay_count p es t zero = 0
delay_count p es t (suc k) = if accepted_at p es k then delay_next p (eager_at p es k) (event_at es k) t (delay_count p es t k) else delay_count p es t k
