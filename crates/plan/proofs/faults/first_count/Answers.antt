-- `plan::faults::first_count` meets its contract. Each entry is asked, in turn, up to one at fault.
use Rattle.std.proofs.Common.{rules}
use Rattle.std.proofs.iter.runs.Sources.{ranges}
use Rattle.rules.specs.Books.Load.{count_fault_of}
use Rattle.rules.specs.Books.Plan.{count_fault, most}
use Rattle.plan.proofs.First.{place_said}
use Rattle.plan.proofs.faults.first_count.Goals as goal

pub returns : goal.returns
unfolding count_fault_of count_fault most
returns c = place_said _ _ _ (λ i e. search (rules, ranges)) (λ i e. search (rules, ranges)) (λ i e j h. search (rules, ranges)) (λ e j h. search (rules, ranges))
