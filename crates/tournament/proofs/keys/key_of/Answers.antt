-- `tournament::keys::key_of` meets its contract. Nothing is kept, or something is. Assumes nothing.
use Rattle.tournament.proofs.KeyLaws.{key_none, key_some}
use Rattle.tournament.proofs.keys.key_of.Goals as goal

pub returns-then-kept-eq0 : goal.returns-then-kept-eq0
returns-then-kept-eq0 c = search key_none

pub returns-else-kept-eq0 : goal.returns-else-kept-eq0
returns-else-kept-eq0 c = rw (c.from-else-kept-eq0.ensures, c.from.ensures, c.from-2.ensures) (key_some c.args.kept c.args.released c.args.t c.if-kept-eq0.false)
