-- `kernel::refusals::release_refusal` meets its contract. Each test in its order. Assumes nothing.
use Rattle.std.proofs.Common.{arith}
use Rattle.rules.specs.Schedulers.EventRefusals.{tests_of, release_order}
use Rattle.kernel.proofs.Ready.{tasks_in}
use Rattle.kernel.proofs.TestLaws.{order}
use Rattle.kernel.proofs.refusals.release_refusal.Goals as goal

pub bounds-state-y : goal.bounds-state-y
bounds-state-y c = omega (arith, tasks_in c.requires)

pub returns-then-plan-y : goal.returns-then-plan-y
unfolding tests_of release_order
returns-then-plan-y c = search order

pub returns-then-state-y-gt0 : goal.returns-then-state-y-gt0
unfolding tests_of release_order
returns-then-state-y-gt0 c = search order

pub returns-else-state-y-gt0 : goal.returns-else-state-y-gt0
unfolding tests_of release_order
returns-else-state-y-gt0 c = search order
