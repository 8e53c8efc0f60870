-- `texts::line::ended` meets its contract. The items of a job, or nothing. Assumes nothing.
use Rattle.std.proofs.Common.{rules}
use Rattle.texts.proofs.Said.{ended_job, ended_plain}
use Rattle.texts.proofs.line.ended.Goals as goal

pub returns-then-has_items : goal.returns-then-has_items
returns-then-has_items c = search (ended_job, rules)

pub returns-else-has_items : goal.returns-else-has_items
returns-else-has_items c = search (ended_plain, rules)
