-- `scheduler::step` meets its contract. 10 comes first. Assumes nothing.
use Rattle.std.proofs.Common.{rules}
use Rattle.scheduler.proofs.StepLaws.{step_unsound, step_sound}
use Rattle.scheduler.proofs.step.Goals as goal

pub returns-then-sound : goal.returns-then-sound
returns-then-sound c = step_sound _ _ _ _ _ c.if-sound.ensures (search rules)

pub returns-else-sound : goal.returns-else-sound
returns-else-sound c = step_unsound _ _ _ _ _ c.if-sound.ensures (search rules)
