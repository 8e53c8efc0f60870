-- `scheduler::turn::turn` meets its contract. The event is accepted and has its row, or it is refused. Assumes nothing.
use Rattle.scheduler.proofs.TurnLaws.{turn_accepted, turn_refused}
use Rattle.scheduler.proofs.turn.turn.Goals as goal

pub returns-in-Ok-clause-rows_after : goal.returns-in-Ok-clause-rows_after
returns-in-Ok-clause-rows_after c =
    turn_accepted _ _ _ _ _ _ _ _ _ c.requires.0.sound c.event_on.ensures c.act.ensures.state_after _ _ c.in-Ok.is c.put_row.ensures

pub returns-in-Err-clause-rows_after : goal.returns-in-Err-clause-rows_after
returns-in-Err-clause-rows_after c =
    turn_refused _ _ _ _ _ _ _ _ _ c.requires.0.sound c.event_on.ensures c.act.ensures.state_after _ c.in-Err.is
