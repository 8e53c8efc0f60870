-- `plan::ceilings::first_wrong` meets its contract. Each lock below the count is asked, in turn, up to one at fault.
use Rattle.std.proofs.Common.{rules}
use Rattle.std.proofs.iter.runs.Sources.{ranges}
use Rattle.rules.specs.Books.Plan.{ceiling_fault}
use Rattle.plan.proofs.First.{place_said}
use Rattle.plan.proofs.ceilings.first_wrong.Goals as goal

pub returns : goal.returns
unfolding ceiling_fault
returns c = place_said _ _ _ (λ i e. search (rules, ranges)) (λ i e. search (rules, ranges)) (λ i e j h. search (rules, ranges)) (λ e j h. search (rules, ranges))
