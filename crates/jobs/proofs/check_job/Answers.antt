-- `jobs::check_job` meets its contract: the text is read into no space. Assumes nothing.
use Rattle.std.proofs.Common.{rules}
use Rattle.jobs.proofs.Answers.{check_stopped, check_small, check_passed}
use Rattle.jobs.proofs.check_job.Goals as goal

pub returns-in-Err-clause-value : goal.returns-in-Err-clause-value
returns-in-Err-clause-value c = search (check_stopped, rules, c.in-Err.ensures.place_in_bounds)

pub returns-in-Ok-clause-value : goal.returns-in-Ok-clause-value
returns-in-Ok-clause-value c = search (check_small, rules)

pub returns-in-Ok-2-clause-value : goal.returns-in-Ok-2-clause-value
returns-in-Ok-2-clause-value c = search (check_passed, rules)
