-- `texts::line::items` meets its contract. After the name and the number, without the spaces at the end. Assumes nothing.
use Rattle.std.proofs.Common.{rules}
use Rattle.texts.proofs.Said.{items_so}
use Rattle.texts.proofs.line.items.Goals as goal

pub returns : goal.returns
returns c = search (items_so, rules)
