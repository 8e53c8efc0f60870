-- RULES 14.6: neither lazy protocol calls the kernel more often than the eager scheduler, nor the second more often than the first. Said of place k of a list
-- of events from a fresh start. Assumes nothing.
use Rattle.std.specs.Prelude.{◌≡◌, true, List, ℕ, suc, ◌≤◌}
use Rattle.rules.specs.Schedulers.Figures.{figures_of}
use Rattle.rules.specs.Schedulers.FiguresAfter.{eager_calls}
use Rattle.rules.specs.Demands.History.{event_at, eager_at, lazy_at, runner_at, accepted_at, calls_at, lazy_count, eager_count}
use Rattle.rules.specs.declared.plan.Plan.{Plan}
use Rattle.rules.specs.declared.protocol.Protocol.{Protocol}
use Rattle.rules.specs.declared.protocol.Protocol.TheVariants.{Second, First}
use Rattle.rules.specs.declared.event.Event.{Event}

pub record Fair (pr : Protocol) (p : Plan) (es : List Event) (k : ℕ) : Type 0 where
  -- the event at place k, where it is accepted, has no more lazy calls than eager ones
  pub event : accepted_at p es k ≡ true → calls_at pr p es k ≤ eager_calls p (eager_at p es k) (eager_at p es (suc k)) (runner_at p es k) (event_at es k)
  -- nor have the events before it, as they are counted over the history and in the state
  pub counts : lazy_count pr p es k ≤ eager_count p es k
  pub reported : (lazy_at pr p es k).head.lazy ≤ (lazy_at pr p es k).head.eager

-- the calls of the first protocol lie between those of the second and the eager ones
pub record Between (p : Plan) (es : List Event) (k : ℕ) : Type 0 where
  -- of the event at place k, where it is accepted
  pub event : accepted_at p es k ≡ true → calls_at Second p es k ≤ calls_at First p es k
  -- of the events before it, as they are counted over the history and in the states
  pub counts : lazy_count Second p es k ≤ lazy_count First p es k
  pub reported : (lazy_at Second p es k).head.lazy ≤ (lazy_at First p es k).head.lazy
  pub fair : (lazy_at First p es k).head.lazy ≤ (lazy_at Second p es k).head.eager
  -- both states have the same figures, the eager count among them, and the same running task
  pub figures : figures_of (lazy_at First p es k) ≡ figures_of (lazy_at Second p es k)
  pub running : (lazy_at First p es k).head.running ≡ (lazy_at Second p es k).head.running
