-- `texts::line::line_of` meets its contract. Its words. Assumes nothing.
use Rattle.std.proofs.Common.{rules}
use Rattle.texts.proofs.Said.{line_so}
use Rattle.texts.proofs.line.line_of.Goals as goal

pub returns : goal.returns
returns c = search (line_so, rules)
