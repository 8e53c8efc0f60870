-- `look::entry_at` meets its contract. An entry of the contents, and none.
use Rattle.std.proofs.Common.{sym, ◌∙◌, arith}
use Rattle.rules.proofs.Numbers.Choice.{tests}
use Rattle.book.specs.Look.{entry_in}
use Rattle.book.proofs.Looks.{entry_some, entry_none}
use Rattle.book.proofs.Places.{part_at, part_past}
use Rattle.book.proofs.look.entry_at.Goals as goal

pub returns-in-Some : goal.returns-in-Some
returns-in-Some c =
    let (l, q) = part_at _ _ (sym c.at.ensures ∙ c.in-Some.is) in
    rw (← q) (entry_some _ _ _ _ _ c.if-b-ge-CONTENTS.true (omega (arith, q, l)) c.kind_at.ensures c.count_at.ensures.0 c.offset_at.ensures)

pub returns-in_default : goal.returns-in_default
unfolding entry_in
returns-in_default c = search tests

pub returns-in_default-2 : goal.returns-in_default-2
returns-in_default-2 c = let l = part_past _ (sym c.at.ensures ∙ c.in_default.is) in entry_none _ _ l
