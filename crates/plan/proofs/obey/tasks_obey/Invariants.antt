use Rattle.std.proofs.Common.{◌≡◌}
use Rattle.rules.specs.Numbers.Place.{every}
use Rattle.rules.specs.Soundness.SoundTest.{task_obeys}
use Rattle.plan.proofs.obey.tasks_obey.Given as goal

abbrev pub invariant-loop-t : goal.invariant-loop-t
invariant-loop-t l = l.right ≡ every (task_obeys l.p) l.t
