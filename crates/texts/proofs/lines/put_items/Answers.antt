-- `texts::lines::put_items` meets its contract. They are read into event space, and put from there. Assumes nothing.
use Rattle.std.proofs.Common.{rules}
use Rattle.texts.proofs.Split.{items_none, items_some}
use Rattle.texts.proofs.lines.put_items.Goals as goal

pub returns-in-Ok : goal.returns-in-Ok
returns-in-Ok c = let h = c.in-Ok.ensures in search (items_some, rules)

pub returns-in_default : goal.returns-in_default
returns-in_default c = let h = c.in_default.ensures in search (items_none, rules)
