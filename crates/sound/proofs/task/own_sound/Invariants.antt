-- What is left of the row is tested as the whole row is.
use Rattle.std.proofs.Common.{◌≡◌, ◌-◌}
use Rattle.rules.specs.Soundness.SoundTest.{own_test}
use Rattle.sound.proofs.task.own_sound.Given as goal

abbrev pub invariant-loop : goal.invariant-loop
invariant-loop l = own_test l.owner l.x l.rest (l.k - l.counter) ≡ own_test l.owner l.x l.row l.k
