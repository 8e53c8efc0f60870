-- `jobs::read::scan` meets its contract: no text, a body that stops or that goes not to the end, and one that does. Assumes nothing.
use Rattle.std.proofs.Common.{rules}
use Rattle.jobs.proofs.Ways.{err_same, scans}
use Rattle.jobs.proofs.read.scan.Goals as goal

pub returns-then-is_empty-clause-text_value : goal.returns-then-is_empty-clause-text_value
returns-then-is_empty-clause-text_value c = search (scans, err_same, rules)

pub returns-in_err-place-clause-text_value : goal.returns-in_err-place-clause-text_value
returns-in_err-place-clause-text_value c = search (scans, err_same, rules)

pub returns-then-place-text-clause-text_value : goal.returns-then-place-text-clause-text_value
returns-then-place-text-clause-text_value c = search (scans, err_same, rules)

pub returns-clause-text_value : goal.returns-clause-text_value
returns-clause-text_value c = search (scans, err_same, rules)
