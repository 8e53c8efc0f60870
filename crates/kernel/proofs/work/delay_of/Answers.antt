-- `kernel::work::delay_of` meets its contract. The task waits or not. Assumes nothing.
use Rattle.std.proofs.Common.{arith}
use Rattle.kernel.proofs.WorkLaws.{waits_more, waits_same}
use Rattle.kernel.proofs.work.delay_of.Goals as goal

pub returns-then-y-b : goal.returns-then-y-b
returns-then-y-b c = waits_more _ _ _ _ _ c.if-y-b.true _ (omega arith)

pub returns-else-y-b : goal.returns-else-y-b
returns-else-y-b c = waits_same _ _ _ _ _ c.if-y-b.false
