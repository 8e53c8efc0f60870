-- `kernel::work::work` meets its contract. The tasks wait, and the open sections are charged. Assumes nothing.
use Rattle.kernel.proofs.EventLaws.{work_acts}
use Rattle.kernel.proofs.work.work.Goals as goal

pub bounds-state-x : goal.bounds-state-x
bounds-state-x c = c.requires.0.runs

pub bounds-state-x-2 : goal.bounds-state-x-2
bounds-state-x-2 c = c.requires.0.runs

pub charge-requires : goal.charge-requires
charge-requires c = rw c.waits.ensures (c.requires.0.locks)

pub returns : goal.returns
returns c = work_acts _ _ _ _ _ c.waits.ensures c.charge.ensures
