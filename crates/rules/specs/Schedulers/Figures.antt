-- RULES 7.1, 7.3: the figures that both schedulers keep, and a task's priority by them. Assumes nothing.
use Rattle.std.specs.Prelude.{◌≡◌, Bool, List, ℕ, ltb, length, replicate, if◌then◌else◌}
use Rattle.rules.specs.Numbers.Capacity.{max_tasks, max_locks}
use Rattle.rules.specs.Numbers.Place.{at}
use Rattle.rules.specs.Numbers.Row.{has, priority}
use Rattle.rules.specs.declared.plan.Plan.{Plan}
use Rattle.rules.specs.declared.state.State.{State}

pub record Figures : Type 0 where
  -- accepted events, and eager calls among them
  pub accepted : ℕ
  pub eager : ℕ
  -- of each task: release number (0 where it is not released), delay, how many takes it has, and the row of them
  pub released : List ℕ
  pub delay : List ℕ
  pub depth : List ℕ
  pub takes : List ℕ
  -- of each lock: the units of its section
  pub units : List ℕ

-- there is a place for every task and every lock that a plan may have
pub record Sized (f : Figures) : Type 0 where
  pub released : length f.released ≡ max_tasks
  pub delay : length f.delay ≡ max_tasks
  pub depth : length f.depth ≡ max_tasks
  pub takes : length f.takes ≡ max_tasks
  pub units : length f.units ≡ max_locks

abbrev pub figures_of : State → Figures
figures_of s =
    record {
      accepted = s.head.accepted;
      eager = s.head.eager;
      released = s.released;
      delay = s.delay;
      depth = s.depth;
      takes = s.takes;
      units = s.units;
    }

abbrev pub fresh_figures : Figures
fresh_figures =
    record {
      accepted = 0;
      eager = 0;
      released = replicate max_tasks 0;
      delay = replicate max_tasks 0;
      depth = replicate max_tasks 0;
      takes = replicate max_tasks 0;
      units = replicate max_locks 0;
    }

-- task x has lock l open: it has at least one take of it
unfoldable pub holds : Figures → ℕ → ℕ → Bool
holds f x l = has (at f.takes x) (at f.depth x) l

-- the priority of task x: that of its row, over its base
unfoldable pub priority_of : Plan → Figures → ℕ → ℕ
priority_of p f x = priority (at p.ceiling) (at p.base x) (at f.takes x) (at f.depth x)

-- a released task's priority, and 0 for any other
unfoldable pub rank_of : Plan → Figures → ℕ → ℕ
rank_of p f x = if ltb 0 (at f.released x) then priority_of p f x else 0
