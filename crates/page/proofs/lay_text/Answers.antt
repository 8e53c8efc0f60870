-- `page::lay_text` meets its contract. Each turn lays one byte. Assumes nothing.
use Rattle.page.proofs.Said.{laid_next, laid_rest}
use Rattle.page.proofs.lay_text.Goals as goal

pub loop-byte-init : goal.loop-byte-init
loop-byte-init c new place h = h

pub loop-byte-preserved : goal.loop-byte-preserved
loop-byte-preserved c new place h = c.loop-byte.invariant new place (laid_next c.args.text.now c.args.text.now _ _ _ _ c.loop-byte.byte-index 0 c.loop-byte-test.true c.lay-place.ensures new place h)

pub returns : goal.returns
returns c = c.loop-byte.invariant _ _ (laid_rest _ _ _ _ c.loop-byte-test.false)
