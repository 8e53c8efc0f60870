-- `tournament::tree::lay` meets its contract. Each turn lays one key. Assumes nothing.
use Rattle.tournament.proofs.BuildLaws.{lay_start, lay_next}
use Rattle.tournament.proofs.tree.lay.Goals as goal

pub loop-t-init : goal.loop-t-init
loop-t-init c = search lay_start

pub loop-t-preserved : goal.loop-t-preserved
loop-t-preserved c = search lay_next
