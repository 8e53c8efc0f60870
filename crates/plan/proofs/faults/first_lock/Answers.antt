-- `plan::faults::first_lock` meets its contract. Each lock is asked, in turn, up to one at fault.
use Rattle.std.proofs.Common.{rules}
use Rattle.std.proofs.iter.runs.Made.{chains}
use Rattle.rules.specs.Books.Load.{lock_fault_at}
use Rattle.plan.proofs.First.{place_said}
use Rattle.plan.proofs.faults.first_lock.Goals as goal

pub returns : goal.returns
unfolding lock_fault_at
returns c = place_said _ _ _ (λ i e. search (rules, chains)) (λ i e. search (rules, chains)) (λ i e j h. search (rules, chains)) (λ e j h. search (rules, chains))
