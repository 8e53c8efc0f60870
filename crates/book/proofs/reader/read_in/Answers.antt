-- `reader::read_in` meets its contract. Nothing lies past the end.
use Rattle.std.proofs.Common.{rules}
use Rattle.book.proofs.Where.{found_past}
use Rattle.book.proofs.reader.read_in.Goals as goal

pub returns-in-None : goal.returns-in-None
returns-in-None c = search (rules, found_past)
