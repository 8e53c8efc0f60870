-- What is left of the row is tested as the whole row is.
use Rattle.std.proofs.Common.{◌≡◌, ◌-◌}
use Rattle.rules.specs.Soundness.SoundTest.{row_test}
use Rattle.sound.proofs.task.row_sound.Given as goal

abbrev pub invariant-loop : goal.invariant-loop
invariant-loop l = row_test l.m l.uses l.rest (l.k - l.counter) ≡ row_test l.m l.uses l.row l.k
