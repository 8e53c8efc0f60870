-- `cursor::cursor` meets its contract. A record that is refused, one that is not, and the end.
use Rattle.book.proofs.Records.{found_bad, found_good, found_end}
use Rattle.book.proofs.cursor.cursor.Goals as goal

pub returns-then-k-body : goal.returns-then-k-body
returns-then-k-body c = search found_end

pub returns-then-event_fault : goal.returns-then-event_fault
returns-then-event_fault c = search found_bad

pub returns-else-event_fault : goal.returns-else-event_fault
returns-else-event_fault c = search found_good
