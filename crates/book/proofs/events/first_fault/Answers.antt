-- `events::first_fault` meets its contract. Where none is refused there is no first.
use Rattle.std.proofs.Common.{sym, ◌∙◌}
use Rattle.book.proofs.Firsts.{none_below}
use Rattle.book.proofs.events.first_fault.Goals as goal

pub returns-else-any_fault : goal.returns-else-any_fault
returns-else-any_fault c = none_below _ _ (sym c.any_fault.ensures ∙ c.if-any_fault.false)
