-- RULES 8: what each test after that of the tasks rests on. Assumes nothing.
use Rattle.std.specs.Prelude.{◌≤◌, IsTrue}
use Rattle.rules.specs.Numbers.Capacity.{max_tasks, max_locks}
use Rattle.rules.specs.Numbers.Place.{every}
use Rattle.rules.specs.Schedulers.Figures.{figures_of}
use Rattle.rules.specs.Schedulers.Lazy.{words_of}
use Rattle.rules.specs.Soundness.SoundTest.{task_test}
use Rattle.rules.specs.declared.plan.Plan.{Plan}
use Rattle.rules.specs.declared.state.State.{State}

-- there is a place for every task and lock of the plan, and every task is sound
pub record TasksSound (p : Plan) (s : State) : Type 0 where
  pub tasks_fit : p.tasks ≤ max_tasks
  pub locks_fit : p.locks ≤ max_locks
  pub each : IsTrue (every (task_test p (figures_of s) (words_of s)) p.tasks)
