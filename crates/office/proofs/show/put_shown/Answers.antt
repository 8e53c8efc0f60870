-- `office::show::put_shown` meets its contract. By what the check answers. Assumes nothing.
use Rattle.office.proofs.Showing.{shown_accepted, shown_not}
use Rattle.office.proofs.show.put_shown.Goals as goal

pub returns-in-Ok : goal.returns-in-Ok
returns-in-Ok c = shown_accepted _ _ _ _ c.in-Ok.ensures c.put_accepted.ensures

pub returns-in-Err : goal.returns-in-Err
returns-in-Err c = shown_not _ _ _ _ c.in-Err.ensures c.put_refused_book.ensures
