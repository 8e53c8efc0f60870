-- `kernel::calls::eager_calls` meets its contract. The words are the same or not. Assumes nothing.
use Rattle.std.proofs.Common.{rules}
use Rattle.kernel.proofs.EventLaws.{calls_none, calls_one}
use Rattle.kernel.proofs.calls.eager_calls.Goals as goal

pub returns-then-eq : goal.returns-then-eq
returns-then-eq c = (calls_none _ _ c.if-eq.ensures, search rules)

pub returns-else-eq : goal.returns-else-eq
returns-else-eq c = (calls_one _ _ c.if-eq.ensures, search rules)
