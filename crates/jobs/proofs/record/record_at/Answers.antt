-- `jobs::record::record_at` meets its contract: the record is there, or not. Assumes nothing.
use Rattle.std.proofs.Common.{rules}
use Rattle.jobs.proofs.Sheets.{there, read_past}
use Rattle.jobs.proofs.record.record_at.Goals as goal

pub returns-then-n-space : goal.returns-then-n-space
returns-then-n-space c = search (there, rules)

pub returns-else-n-space : goal.returns-else-n-space
returns-else-n-space c = search (read_past, rules)
