-- `jobs::read::work` meets its contract: the units are read, or not. Assumes nothing.
use Rattle.std.proofs.Common.{rules}
use Rattle.jobs.proofs.Ways.{err_same, work_did, work_stopped}
use Rattle.jobs.proofs.read.work.Goals as goal

pub returns-in_err-place-clause-went : goal.returns-in_err-place-clause-went
returns-in_err-place-clause-went c = search (err_same, work_stopped, rules)

pub returns-clause-went : goal.returns-clause-went
returns-clause-went c = search (work_did, rules)
