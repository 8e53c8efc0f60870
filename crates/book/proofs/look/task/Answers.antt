-- `look::task` meets its contract. It is the record's number, or 0.
use Rattle.std.proofs.Common.{rules}
use Rattle.book.specs.Look.{task_in}
use Rattle.book.proofs.Looks.{word_found}
use Rattle.book.proofs.look.task.Goals as goal

pub returns : goal.returns
unfolding task_in
returns c = search (rules, word_found)
