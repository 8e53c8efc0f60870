-- `plan::lower::lower_user` meets its contract. Each task that the plan has a place for is asked, in turn, and those past the places are no users.
use Rattle.std.proofs.Common.{rules}
use Rattle.std.proofs.iter.runs.Sources.{ranges}
use Rattle.rules.specs.Demands.Bound.{lower_at}
use Rattle.plan.proofs.Places.{any_said}
use Rattle.plan.proofs.Limits.{user_here}
use Rattle.plan.proofs.lower.lower_user.Goals as goal

pub returns : goal.returns
unfolding lower_at
returns c = user_here _ _ _ _ (any_said _ _ _ (λ e h. search (rules, ranges)) (λ e k h. search (rules, ranges)))
