-- `jobs::read::enter` meets its contract: the number is read, or not. Assumes nothing.
use Rattle.std.proofs.Common.{rules}
use Rattle.jobs.proofs.Ways.{err_same, enter_did, enter_stopped}
use Rattle.jobs.proofs.read.enter.Goals as goal

pub returns-in_err-number-clause-entered : goal.returns-in_err-number-clause-entered
returns-in_err-number-clause-entered c = search (err_same, enter_stopped, rules)

pub returns-clause-entered : goal.returns-clause-entered
returns-clause-entered c = search (enter_did, rules)
