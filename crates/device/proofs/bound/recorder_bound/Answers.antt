-- `device::bound::recorder_bound` meets its contract. The plan's bound, or 0 where the book is refused. Assumes nothing.
use Rattle.device.proofs.Checked.{bound_passed, bound_refused}
use Rattle.device.proofs.bound.recorder_bound.Goals as goal

pub returns-in-Ok : goal.returns-in-Ok
returns-in-Ok c = bound_passed _ _ _ _ _ c.in-Ok.ensures c.bound.ensures

pub returns-in-Err : goal.returns-in-Err
returns-in-Err c = bound_refused _ _ _ _ c.in-Err.ensures
