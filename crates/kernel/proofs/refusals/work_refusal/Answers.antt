-- `kernel::refusals::work_refusal` meets its contract. Each test in its order. Assumes nothing.
use Rattle.rules.specs.Schedulers.EventRefusals.{tests_of, work_order}
use Rattle.kernel.proofs.TestLaws.{order}
use Rattle.kernel.proofs.refusals.work_refusal.Goals as goal

pub returns-then-a-eq0 : goal.returns-then-a-eq0
unfolding tests_of work_order
returns-then-a-eq0 c = search order

pub returns-then-state : goal.returns-then-state
unfolding tests_of work_order
returns-then-state c = search order

pub returns-then-past : goal.returns-then-past
unfolding tests_of work_order
returns-then-past c = search order

pub returns-else-past : goal.returns-else-past
unfolding tests_of work_order
returns-else-past c = search order
