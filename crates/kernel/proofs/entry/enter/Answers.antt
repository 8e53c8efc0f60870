-- `kernel::entry::enter` meets its contract. The word is cut, or there is none. Assumes nothing.
use Rattle.kernel.proofs.SwitchLaws.{enters_idle, enters_cut}
use Rattle.kernel.proofs.entry.enter.Goals as goal

pub returns-then-x-lt-MAX_TASKS : goal.returns-then-x-lt-MAX_TASKS
returns-then-x-lt-MAX_TASKS c = search enters_cut

pub returns-else-x-lt-MAX_TASKS : goal.returns-else-x-lt-MAX_TASKS
returns-else-x-lt-MAX_TASKS c = search enters_idle
