-- `writer::book_size` meets its contract. Contents, and each body by its records.
use Rattle.std.proofs.Common.{arith}
use Rattle.rules.proofs.Books.ReadBack.{book_size}
use Rattle.book.proofs.writer.book_size.Goals as goal

pub returns : goal.returns
returns c = omega (arith, book_size c.args.records.now.tasks.now c.args.records.now.locks.now c.args.records.now.uses.now c.args.records.now.events.now)
