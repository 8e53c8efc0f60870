-- `page::lay_says` meets its contract. Each turn lays one byte, or one number. Assumes nothing.
use Rattle.std.proofs.Common.{arith}
use Rattle.page.proofs.Said.{laid_mark, laid_byte, laid_ends}
use Rattle.page.proofs.lay_says.Goals as goal
use Rattle.page.proofs.lay_says.Goals.{then-byte-eq-MARK, else-byte-eq-MARK}

pub loop-byte-preserved : goal.loop-byte-preserved
loop-byte-preserved c = elim c.if-byte-eq-MARK.branch [
  | then-byte-eq-MARK w ↦ rw (w.out-is, w.place-is, w.next-is) (record {
    in_range = omega (arith, c.loop-byte.invariant.in_range);
    left = λ new place h. c.loop-byte.invariant.left new place
        (laid_mark c.args.text.now c.args.numbers.now _ _ _ _ c.loop-byte.byte-index c.loop-byte.next c.loop-byte-test.true w.if-byte-eq-MARK.true (rw w.number_at.ensures at w.lay_number-place.ensures) new place h);
  })
  | else-byte-eq-MARK w ↦ rw (w.out-is, w.place-is, w.next-is) (record {
    in_range = omega (arith, c.loop-byte.invariant.in_range);
    left = λ new place h. c.loop-byte.invariant.left new place
        (laid_byte c.args.text.now c.args.numbers.now _ _ _ _ c.loop-byte.byte-index c.loop-byte.next c.loop-byte-test.true w.if-byte-eq-MARK.false w.lay-place.ensures new place h);
  })
]

pub returns : goal.returns
returns c = c.loop-byte.invariant.left _ _ (laid_ends c.args.text.now c.args.numbers.now _ _ c.loop-byte.byte-index c.loop-byte.next c.loop-byte-test.false)
