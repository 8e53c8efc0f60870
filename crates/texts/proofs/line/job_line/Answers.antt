-- `texts::line::job_line` meets its contract. By what its items come to. Assumes nothing.
use Rattle.std.proofs.Common.{arith}
use Rattle.texts.proofs.Said.{room_left, job_right, job_wrong}
use Rattle.texts.proofs.line.job_line.Goals as goal

pub overflow_add-result : goal.overflow_add-result
overflow_add-result c = omega (arith, room_left _ _ c.in-Ok.ensures.events_bound)

pub returns-in-Ok : goal.returns-in-Ok
returns-in-Ok c = job_right _ _ _ c.in-Ok.ensures.value

pub returns-in-Err : goal.returns-in-Err
returns-in-Err c = job_wrong _ _ _ c.in-Err.ensures.value
