-- `look::lock` meets its contract. It is the record's number, or 0.
use Rattle.std.proofs.Common.{rules}
use Rattle.book.specs.Look.{lock_in}
use Rattle.book.proofs.Looks.{long_found}
use Rattle.book.proofs.look.lock.Goals as goal

pub returns : goal.returns
unfolding lock_in
returns c = search (rules, long_found)
