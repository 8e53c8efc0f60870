-- `entry::end_of` meets its contract. Each turn passes one body.
use Rattle.book.proofs.LaidOut.{bodies_start, bodies_next}
use Rattle.book.proofs.Places.{index_taken}
use Rattle.book.proofs.entry.end_of.Goals as goal

pub loop-part-init : goal.loop-part-init
loop-part-init c = bodies_start _

pub loop-part-preserved : goal.loop-part-preserved
loop-part-preserved c =
    bodies_next _ _ _ _ _ c.loop-part.invariant (index_taken _ _ _ c.requires.1 c.loop-part-test.true) c.body_size-place.ensures.0 c.body_size-place.ensures.1
