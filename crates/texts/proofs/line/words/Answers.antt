-- `texts::line::words` meets its contract. The bytes before a comment, after the spaces. Assumes nothing.
use Rattle.std.proofs.Common.{rules}
use Rattle.texts.proofs.Said.{content_so}
use Rattle.texts.proofs.line.words.Goals as goal

pub returns : goal.returns
returns c = search (content_so, rules)
