-- `texts::line::words_line` meets its contract. No word, a name, or another word. Assumes nothing.
use Rattle.std.proofs.Common.{rules}
use Rattle.texts.proofs.Said.{words_none, words_known, words_unknown}
use Rattle.texts.proofs.line.words_line.Goals as goal

pub returns-then-is_empty : goal.returns-then-is_empty
returns-then-is_empty c = search (words_none, rules)

pub returns-in-Some : goal.returns-in-Some
returns-in-Some c = search (words_known, rules)

pub returns-in-None : goal.returns-in-None
returns-in-None c = search (words_unknown, rules)
