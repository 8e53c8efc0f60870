-- `kernel::switch::leave` meets its contract. The word is kept, and the kernel switches. Assumes nothing.
use Rattle.kernel.proofs.SwitchLaws.{leave_switches}
use Rattle.kernel.proofs.switch.leave.Goals as goal

pub returns-clause-state_after : goal.returns-clause-state_after
returns-clause-state_after c = search leave_switches
