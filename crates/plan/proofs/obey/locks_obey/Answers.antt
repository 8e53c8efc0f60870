-- `plan::obey::locks_obey` meets its contract. Each lock below the count is asked, in turn.
use Rattle.std.proofs.Common.{rules}
use Rattle.std.proofs.iter.runs.Sources.{ranges}
use Rattle.rules.specs.Soundness.SoundTest.{lock_obeys}
use Rattle.plan.proofs.Places.{every_said}
use Rattle.plan.proofs.obey.locks_obey.Goals as goal

pub returns : goal.returns
unfolding lock_obeys
returns c = every_said _ _ _ (λ e k h. search (rules, ranges)) (λ e h. search (rules, ranges))
