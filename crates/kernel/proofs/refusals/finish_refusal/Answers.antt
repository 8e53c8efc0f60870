-- `kernel::refusals::finish_refusal` meets its contract. Each test in its order. Assumes nothing.
use Rattle.rules.specs.Schedulers.EventRefusals.{tests_of, finish_order}
use Rattle.kernel.proofs.TestLaws.{order}
use Rattle.kernel.proofs.refusals.finish_refusal.Goals as goal

pub returns-then-state : goal.returns-then-state
unfolding tests_of finish_order
returns-then-state c = search order

pub returns-then-state-gt0 : goal.returns-then-state-gt0
unfolding tests_of finish_order
returns-then-state-gt0 c = search order

pub returns-else-state-gt0 : goal.returns-else-state-gt0
unfolding tests_of finish_order
returns-else-state-gt0 c = search order
