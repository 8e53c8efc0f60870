-- `kernel::refusals::unlock_refusal` meets its contract. Each test in its order. Assumes nothing.
use Rattle.rules.specs.Schedulers.EventRefusals.{tests_of, unlock_order}
use Rattle.kernel.proofs.TestLaws.{order}
use Rattle.kernel.proofs.refusals.unlock_refusal.Goals as goal

pub returns-then-state : goal.returns-then-state
unfolding tests_of unlock_order
returns-then-state c = search order

pub returns-then-plan-l : goal.returns-then-plan-l
unfolding tests_of unlock_order
returns-then-plan-l c = search order

pub returns-then-older : goal.returns-then-older
unfolding tests_of unlock_order
returns-then-older c = search order

pub returns-else-older : goal.returns-else-older
unfolding tests_of unlock_order
returns-else-older c = search order
