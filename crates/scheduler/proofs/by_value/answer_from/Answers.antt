-- `scheduler::by_value::answer_from` meets its contract. One law for each case. Assumes nothing.
use Rattle.scheduler.proofs.StepLaws.{said_passed, said_refused}
use Rattle.std.proofs.Common.{refl}
use Rattle.scheduler.proofs.by_value.answer_from.Goals as goal

pub returns-in-Ok : goal.returns-in-Ok
returns-in-Ok c = said_passed _ _ _ c.in-Ok.is refl

pub returns-in-Err : goal.returns-in-Err
returns-in-Err c = said_refused _ _ _ _ c.in-Err.is
