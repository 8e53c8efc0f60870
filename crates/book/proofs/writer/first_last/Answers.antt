-- `writer::first_last` meets its contract. 8, then 23, then neither.
use Rattle.book.proofs.WriteOrder.{event_refused, buffer_short, last_passes}
use Rattle.book.proofs.writer.first_last.Goals as goal

pub returns-in-Some : goal.returns-in-Some
returns-in-Some c = search event_refused

pub returns-in-None : goal.returns-in-None
returns-in-None c = search buffer_short

pub returns-in-None-2 : goal.returns-in-None-2
returns-in-None-2 c = search last_passes
