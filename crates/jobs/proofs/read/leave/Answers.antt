-- `jobs::read::leave` meets its contract: the bracket is there, or another byte. Assumes nothing.
use Rattle.std.proofs.Common.{rules}
use Rattle.jobs.proofs.Ways.{left_did, left_stopped}
use Rattle.jobs.proofs.read.leave.Goals as goal

pub returns-then-byte-ne-RIGHT-clause-left : goal.returns-then-byte-ne-RIGHT-clause-left
returns-then-byte-ne-RIGHT-clause-left c = search (left_stopped, rules)

pub returns-clause-left : goal.returns-clause-left
returns-clause-left c = search (left_did, rules)
