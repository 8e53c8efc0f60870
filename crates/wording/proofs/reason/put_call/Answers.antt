-- `wording::reason::put_call` meets its contract. Nobody waited, or a task did.
use Rattle.std.proofs.Common.{rules}
use Rattle.page.specs.Ascii.{ascii}
use Rattle.page.proofs.Choice.{choosing}
use Rattle.wording.specs.Reasons.{call_line}
use Rattle.wording.proofs.reason.put_call.Goals as goal

pub returns-then-after-before : goal.returns-then-after-before
unfolding ascii call_line
returns-then-after-before c = search (choosing, rules)

pub returns-else-after-before : goal.returns-else-after-before
unfolding ascii call_line
returns-else-after-before c = search (choosing, rules)
