-- `tournament::tree::raise` meets its contract. Each turn makes one place. Assumes nothing.
use Rattle.tournament.proofs.BuildLaws.{raise_next, raise_ends}
use Rattle.tournament.proofs.tree.raise.Goals as goal

pub loop-i-preserved : goal.loop-i-preserved
loop-i-preserved c = search raise_next

pub returns : goal.returns
returns c f s = search raise_ends
