-- `task::tasks_sound` meets its contract: each task is asked.
use Rattle.std.proofs.Common.{rules}
use Rattle.std.proofs.iter.runs.Sources.{ranges}
use Rattle.rules.specs.Soundness.SoundTest.{task_test}
use Rattle.sound.proofs.Places.{every_is}
use Rattle.sound.proofs.task.tasks_sound.Goals as goal

pub returns : goal.returns
unfolding task_test
returns c = every_is _ _ _ (search (rules, ranges))
