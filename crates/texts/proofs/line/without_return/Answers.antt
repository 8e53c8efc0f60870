-- `texts::line::without_return` meets its contract. It ends with one, or not. Assumes nothing.
use Rattle.std.proofs.Common.{rules}
use Rattle.texts.proofs.Said.{return_off, return_none}
use Rattle.texts.proofs.line.without_return.Goals as goal

pub returns-in-13 : goal.returns-in-13
returns-in-13 c = search (return_off, rules)

pub returns-in_default : goal.returns-in_default
returns-in_default c = search (return_none, rules)

pub returns-in_default-2 : goal.returns-in_default-2
returns-in_default-2 c = search (return_none, rules)
