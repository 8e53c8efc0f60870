-- `figures::row::has_lock` meets its contract. Each turn looks at the newest of what is left.
use Rattle.std.proofs.Common.{rules}
use Rattle.figures.proofs.Rows.{has_hit, has_miss, has_ends}
use Rattle.figures.proofs.row.has_lock.Goals as goal

pub returns-then-newest_of-l : goal.returns-then-newest_of-l
returns-then-newest_of-l c = search (has_hit, rules)

pub loop-preserved : goal.loop-preserved
loop-preserved c = search (has_miss, rules)

pub returns : goal.returns
returns c = search (has_ends, rules)
