-- `kernel::refusals::acquire_refusal` meets its contract. Each test in its order. Assumes nothing.
use Rattle.rules.specs.Books.Plan.{declares}
use Rattle.rules.specs.Schedulers.EventRefusals.{tests_of, acquire_order}
use Rattle.kernel.proofs.TestLaws.{order}
use Rattle.kernel.proofs.refusals.acquire_refusal.Goals as goal

pub returns-then-state : goal.returns-then-state
unfolding tests_of acquire_order declares
returns-then-state c = search order

pub returns-then-plan-l : goal.returns-then-plan-l
unfolding tests_of acquire_order declares
returns-then-plan-l c = search order

pub returns-then-not-has_bit : goal.returns-then-not-has_bit
unfolding tests_of acquire_order declares
returns-then-not-has_bit c = search order depth 6

pub returns-then-open_elsewhere : goal.returns-then-open_elsewhere
unfolding tests_of acquire_order declares
returns-then-open_elsewhere c = search order depth 6

pub returns-then-state-x-ge-MAX_TAKES : goal.returns-then-state-x-ge-MAX_TAKES
unfolding tests_of acquire_order declares
returns-then-state-x-ge-MAX_TAKES c = search order depth 7

pub returns-else-state-x-ge-MAX_TAKES : goal.returns-else-state-x-ge-MAX_TAKES
unfolding tests_of acquire_order declares
returns-else-state-x-ge-MAX_TAKES c = search order depth 7
