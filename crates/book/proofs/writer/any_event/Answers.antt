-- `writer::any_event` meets its contract. Each turn asks one event.
use Rattle.std.proofs.Common.{rules}
use Rattle.rules.proofs.Numbers.Place.{asked_start, asked_next}
use Rattle.book.proofs.writer.any_event.Goals as goal

pub loop-event-init : goal.loop-event-init
loop-event-init c = asked_start _ _

pub loop-event-preserved : goal.loop-event-preserved
loop-event-preserved c = asked_next _ _ _ _ _ c.loop-event.invariant (search rules) c.number_fault-found.ensures
