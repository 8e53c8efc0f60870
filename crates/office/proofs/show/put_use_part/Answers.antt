-- `office::show::put_use_part` meets its contract. The count, then the lines. Assumes nothing.
use Rattle.std.proofs.Common.{rules}
use Rattle.page.specs.Ascii.{ascii}
use Rattle.office.specs.Show.{use_part}
use Rattle.page.proofs.Typed.{typed_two}
use Rattle.office.proofs.show.put_use_part.Goals as goal

pub returns : goal.returns
unfolding ascii use_part
returns c = search (typed_two, rules)
