-- `texts::line::split_word` meets its contract. The bytes before the first space, and those after the spaces. Assumes nothing.
use Rattle.std.proofs.Common.{rules}
use Rattle.texts.proofs.Said.{word_rest}
use Rattle.texts.proofs.line.split_word.Goals as goal

pub returns-clause-rest : goal.returns-clause-rest
returns-clause-rest c = search (word_rest, rules)
