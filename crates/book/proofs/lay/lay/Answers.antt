-- `lay::lay` meets its contract. Four parts, each where the one before it ends.
use Rattle.book.proofs.Laying.{tasks_room, locks_room, uses_room, events_room, length_laid, book_laid}
use Rattle.book.proofs.lay.lay.Goals as goal

pub put_part-locks_at-requires : goal.put_part-locks_at-requires
put_part-locks_at-requires c = search tasks_room

pub put_part-uses_at-requires : goal.put_part-uses_at-requires
put_part-uses_at-requires c = search locks_room

pub put_part-events_at-requires : goal.put_part-events_at-requires
put_part-events_at-requires c = search uses_room

pub put_part-requires : goal.put_part-requires
put_part-requires c = search events_room

pub returns-clause-value : goal.returns-clause-value
returns-clause-value c = search length_laid

pub returns-clause-out_after : goal.returns-clause-out_after
returns-clause-out_after c = search book_laid
