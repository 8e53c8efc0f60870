-- `scheduler::turn::put_row` meets its contract. Four bytes are put. Assumes nothing.
use Rattle.scheduler.proofs.TurnLaws.{row_put}
use Rattle.scheduler.proofs.turn.put_row.Goals as goal

pub returns : goal.returns
returns c = search row_put
