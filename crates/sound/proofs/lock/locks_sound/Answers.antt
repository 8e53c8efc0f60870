-- `lock::locks_sound` meets its contract: each lock is asked.
use Rattle.std.proofs.Common.{rules}
use Rattle.std.proofs.iter.runs.Sources.{ranges}
use Rattle.rules.specs.Soundness.SoundTest.{lock_test}
use Rattle.sound.proofs.Places.{every_is}
use Rattle.sound.proofs.lock.locks_sound.Goals as goal

pub returns : goal.returns
unfolding lock_test
returns c = every_is _ _ _ (search (rules, ranges))
