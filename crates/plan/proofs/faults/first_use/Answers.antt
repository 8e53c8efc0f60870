-- `plan::faults::first_use` meets its contract. Each use is asked, in turn, up to one at fault.
use Rattle.std.proofs.Common.{rules}
use Rattle.std.proofs.iter.runs.Sources.{ranges}
use Rattle.rules.specs.Books.Load.{use_fault}
use Rattle.plan.proofs.First.{place_said}
use Rattle.plan.proofs.faults.first_use.Goals as goal

pub returns : goal.returns
unfolding use_fault
returns c = place_said _ _ _ (λ i e. search (rules, ranges)) (λ i e. search (rules, ranges)) (λ i e j h. search (rules, ranges)) (λ e j h. search (rules, ranges))
