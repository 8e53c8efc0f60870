-- `office::show::put_accepted` meets its contract. The parts of a book that was replayed. Assumes nothing.
use Rattle.std.proofs.Common.{rules}
use Rattle.office.proofs.Showing.{shown_ran}
use Rattle.office.proofs.show.put_accepted.Goals as goal

pub returns : goal.returns
returns c = search (shown_ran, rules)
