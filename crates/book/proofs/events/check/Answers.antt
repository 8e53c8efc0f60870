-- `events::check` meets its contract. 8, then 9, then neither.
use Rattle.std.proofs.Common.{rules}
use Rattle.book.proofs.Order.{wrong_event, short_rows, all_right}
use Rattle.book.proofs.Parts.{event_body_lem}
use Rattle.book.proofs.events.check.Goals as goal

pub slice_bounds-body-count : goal.slice_bounds-body-count
slice_bounds-body-count c = search (event_body_lem, rules)

pub slice_bounds-body-start : goal.slice_bounds-body-start
slice_bounds-body-start c = search (event_body_lem, rules)

pub returns-in-Some : goal.returns-in-Some
returns-in-Some c = search wrong_event

pub returns-in-None : goal.returns-in-None
returns-in-None c = search short_rows

pub returns-in-None-2 : goal.returns-in-None-2
returns-in-None-2 c = search all_right
