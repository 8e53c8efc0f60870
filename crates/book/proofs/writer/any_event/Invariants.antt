use Rattle.std.proofs.Common.{length}
use Rattle.rules.specs.Numbers.Place.{at}
use Rattle.rules.specs.Books.Event.{number_fault}
use Rattle.rules.proofs.Numbers.Place.{AskedSoFar}
use Rattle.book.proofs.writer.any_event.Given as goal

abbrev pub invariant-loop-event : goal.invariant-loop-event
invariant-loop-event l = AskedSoFar (λ k. number_fault (at l.events k)) (length l.events) l.event-index l.found
