-- `writer::first_event` meets its contract. Where none is refused there is no first.
use Rattle.std.proofs.Common.{sym, ◌∙◌}
use Rattle.rules.specs.Books.Event.{number_fault}
use Rattle.book.proofs.Firsts.{none_in}
use Rattle.book.proofs.writer.first_event.Goals as goal

pub returns-else-any_event : goal.returns-else-any_event
returns-else-any_event c = none_in number_fault c.args.events.now (sym c.any_event.ensures ∙ c.if-any_event.false)
