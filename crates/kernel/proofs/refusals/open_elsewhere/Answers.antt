-- `kernel::refusals::open_elsewhere` meets its contract, by the owner's byte. Assumes nothing.
use Rattle.std.proofs.Common.{arith}
use Rattle.kernel.proofs.Ready.{tasks_in, locks_in}
use Rattle.kernel.proofs.TestLaws.{owner_none, owner_some_other}
use Rattle.kernel.proofs.refusals.open_elsewhere.Goals as goal

pub bounds-state-l : goal.bounds-state-l
bounds-state-l c = omega (arith, locks_in c.requires.sound)

pub overflow_add-result : goal.overflow_add-result
overflow_add-result c = omega (arith, tasks_in c.requires.sound)

pub returns-then-owner-ne0 : goal.returns-then-owner-ne0
returns-then-owner-ne0 c = owner_some_other _ _ c.requires.sound _ c.if-owner-ne0.true

pub returns-else-owner-ne0 : goal.returns-else-owner-ne0
returns-else-owner-ne0 c = owner_none _ _ c.requires.sound _ c.if-owner-ne0.false
