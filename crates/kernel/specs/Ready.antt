-- RULES 9: what the code of each accepted event asks of a state: numbers that a sound state has. Of the user word it asks that nobody's is 0, and of the saved
-- words that they fit their row; so it is held to the cut whatever a task has written into its word. Assumes nothing.
use Rattle.std.specs.Prelude.{◌≡◌, ℕ, ◌≤◌, ◌<◌, ◌^◌}
use Rattle.rules.specs.Numbers.Capacity.{max_tasks, max_locks, max_takes, max_accepted}
use Rattle.rules.specs.Numbers.Place.{at}
use Rattle.rules.specs.Schedulers.Lazy.{best_kept}
use Rattle.rules.specs.declared.plan.Plan.{Plan}
use Rattle.rules.specs.declared.state.State.{State}
use Rattle.kernel.specs.Acting.{IdleWord, Arrives}
use Rattle.kernel.specs.Work.{InRow}

pub record TickReady (s : State) : Type 0 where
  pub room : s.head.accepted < max_accepted
  pub idle : IdleWord s

pub record ReleaseReady (p : Plan) (s : State) (t : ℕ) : Type 0 where
  pub room : s.head.accepted < max_accepted
  pub arrives : Arrives p.tasks s t

-- the running task's rows are no longer than its number of takes, and there is room for one more
pub record AcquireReady (s : State) (l : ℕ) : Type 0 where
  pub room : s.head.accepted < max_accepted
  pub lazy : s.head.lazy ≤ s.head.accepted
  pub eager : s.head.eager ≤ s.head.accepted
  pub runs : s.head.running < max_tasks
  pub known : l < max_locks
  pub free : at s.depth s.head.running < max_takes
  pub row : at s.takes s.head.running < 256 ^ at s.depth s.head.running
  pub words : at s.saved s.head.running < 256 ^ at s.depth s.head.running

pub record UnlockReady (s : State) (l : ℕ) : Type 0 where
  pub room : s.head.accepted < max_accepted
  pub lazy : s.head.lazy ≤ s.head.accepted
  pub eager : s.head.eager ≤ s.head.accepted
  pub runs : s.head.running < max_tasks
  pub known : l < max_locks
  pub some : 0 < at s.depth s.head.running

-- a released task of greater base than the running one's is not above the greatest kept priority
abbrev pub Waiting : Plan → State → Type 0
Waiting p s = (x : ℕ) → 0 < at s.released x → at p.base s.head.running < at p.base x → at p.base x ≤ best_kept s.kept p.tasks

pub record WorkReady (p : Plan) (s : State) : Type 0 where
  pub room : s.head.accepted < max_accepted
  pub runs : s.head.running < max_tasks
  pub locks : InRow max_locks (at s.takes s.head.running) (at s.depth s.head.running)
  pub waiting : Waiting p s

-- nothing is kept for the running task
pub record FinishReady (s : State) : Type 0 where
  pub room : s.head.accepted < max_accepted
  pub runs : s.head.running < max_tasks
  pub left : at s.kept s.head.running ≡ 0
