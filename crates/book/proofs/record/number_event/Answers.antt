-- `record::number_event` meets its contract. It is the event of the number's three parts.
use Rattle.rules.specs.Books.Event.{number_event}
use Rattle.book.proofs.record.number_event.Goals as goal

pub returns : goal.returns
unfolding number_event
returns c = cc
