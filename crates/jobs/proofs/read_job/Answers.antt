-- `jobs::read_job` meets its contract: a refusal, or the text read once more, into the space. Assumes nothing.
use Rattle.rules.proofs.Numbers.Checks.{handed_on}
use Rattle.jobs.proofs.Answers.{read_passed, read_refused}
use Rattle.jobs.proofs.read_job.Goals as goal

pub returns-in_err-count : goal.returns-in_err-count
returns-in_err-count c = read_refused _ _ _ _ (handed_on _ _ c.from_residual.ensures.1) c.in_err-count.ensures.value

pub returns : goal.returns
returns c = let h = c.in_ok-count.ensures.value in search read_passed
