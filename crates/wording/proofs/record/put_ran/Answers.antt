-- `wording::record::put_ran` meets its contract. Nobody runs, or a task.
use Rattle.std.proofs.Common.{rules}
use Rattle.page.specs.Ascii.{ascii}
use Rattle.page.proofs.Choice.{choosing}
use Rattle.wording.specs.Records.{ran_comment}
use Rattle.wording.proofs.record.put_ran.Goals as goal

pub returns-then-task : goal.returns-then-task
unfolding ascii ran_comment
returns-then-task c = search (choosing, rules)

pub returns-else-task : goal.returns-else-task
unfolding ascii ran_comment
returns-else-task c = search (choosing, rules)
