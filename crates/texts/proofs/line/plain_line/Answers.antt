-- `texts::line::plain_line` meets its contract. Nothing stands there, or something. Assumes nothing.
use Rattle.std.proofs.Common.{rules}
use Rattle.texts.proofs.Said.{plain_so, plain_not}
use Rattle.texts.proofs.line.plain_line.Goals as goal

pub returns-then-is_empty : goal.returns-then-is_empty
returns-then-is_empty c = search (plain_so, rules)

pub returns-else-is_empty : goal.returns-else-is_empty
returns-else-is_empty c = search (plain_not, rules)
