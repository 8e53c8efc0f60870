-- `priority::row_saves` meets its contract: the definition, by its cases.
use Rattle.std.proofs.Common.{rules}
use Rattle.sound.proofs.Rows.{saves_ends, saves_fits, saves_more, saves_fit}
use Rattle.sound.proofs.priority.+row_saves.Goals as goal

pub returns-then-k-eq0 : goal.returns-then-k-eq0
returns-then-k-eq0 t c = (search (rules, saves_ends), search (rules, saves_fits))

pub returns-else-k-eq0 : goal.returns-else-k-eq0
returns-else-k-eq0 t c = (search (rules, saves_more), search (rules, saves_fit))
