-- `look::record` meets its contract. There are so many records, and no more.
use Rattle.std.proofs.Common.{rules}
use Rattle.book.proofs.Looks.{record_some, record_none}
use Rattle.book.proofs.look.record.Goals as goal

pub returns-then-k-count : goal.returns-then-k-count
returns-then-k-count g c = search (rules, record_some)

pub returns-else-k-count : goal.returns-else-k-count
returns-else-k-count g c = search (rules, record_none)
