-- `texts::lines::count_in` meets its contract. Case by case. Assumes nothing.
use Rattle.texts.proofs.Split.{counts}
use Rattle.texts.proofs.lines.count_in.Goals as goal

pub returns-then-p-part : goal.returns-then-p-part
returns-then-p-part c = search counts

pub returns-else-p-part : goal.returns-else-p-part
returns-else-p-part c = search counts

pub returns-then-part-eq3 : goal.returns-then-part-eq3
returns-then-part-eq3 c = search counts

pub returns-else-part-eq3 : goal.returns-else-part-eq3
returns-else-part-eq3 c = search counts
