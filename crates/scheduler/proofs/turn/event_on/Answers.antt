-- `scheduler::turn::event_on` meets its contract. The first event is the one that is handed in. Assumes nothing.
use Rattle.scheduler.proofs.TurnLaws.{on_first, on_later}
use Rattle.scheduler.proofs.turn.event_on.Goals as goal

pub returns-then-k-eq0 : goal.returns-then-k-eq0
returns-then-k-eq0 c = on_first _ _ _ c.if-k-eq0.true

pub returns-else-k-eq0 : goal.returns-else-k-eq0
returns-else-k-eq0 c = on_later _ _ _ c.if-k-eq0.false _ c.event_at.ensures
