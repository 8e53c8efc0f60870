-- `bodies::fill` meets its contract. Each turn reads one number.
use Rattle.std.proofs.Common.{[], rules}
use Rattle.book.proofs.Parts.{filled_start, filled_next}
use Rattle.book.proofs.bodies.fill.Goals as goal

pub loop-i-init : goal.loop-i-init
loop-i-init g c = filled_start _ []

pub loop-i-preserved : goal.loop-i-preserved
loop-i-preserved g c = let h = c.read.ensures in let k = c.SIZE.ensures in filled_next _ _ _ _ c.loop-i.invariant (search rules) (search rules)
