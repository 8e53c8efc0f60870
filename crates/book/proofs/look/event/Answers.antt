-- `look::event` meets its contract. It is the record's number, or 0.
use Rattle.std.proofs.Common.{rules}
use Rattle.book.specs.Look.{event_in}
use Rattle.book.proofs.Looks.{long_found}
use Rattle.book.proofs.look.event.Goals as goal

pub returns : goal.returns
unfolding event_in
returns c = search (rules, long_found)
