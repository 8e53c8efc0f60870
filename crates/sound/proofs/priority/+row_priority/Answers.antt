-- `priority::row_priority` meets its contract: the definition, by its cases.
use Rattle.std.proofs.Common.{rules, ◌≡◌, max}
use Rattle.sound.proofs.Rows.{priority_ends, priority_more}
use Rattle.sound.proofs.priority.+row_priority.Goals as goal

pub returns-then-k-eq0 : goal.returns-then-k-eq0
returns-then-k-eq0 t c = search (rules, priority_ends)

pub returns-else-k-eq0 : goal.returns-else-k-eq0
returns-else-k-eq0 t c =
    let greater : c.max.result.0 ≡ max c.at_lock.result c.row_priority-below.result.0 = search rules in
    search (rules, priority_more)
