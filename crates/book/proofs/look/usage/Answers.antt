-- `look::usage` meets its contract. It is the record's number, or 0.
use Rattle.std.proofs.Common.{rules}
use Rattle.book.specs.Look.{use_in}
use Rattle.book.proofs.Looks.{word_found}
use Rattle.book.proofs.look.usage.Goals as goal

pub returns : goal.returns
unfolding use_in
returns c = search (rules, word_found)
