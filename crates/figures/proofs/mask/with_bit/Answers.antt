-- `figures::mask::with_bit` meets its contract. A lock's bit is joined, whether it is in the set or not.
use Rattle.figures.proofs.Sets.{with_in, with_none}
use Rattle.figures.proofs.mask.with_bit.Goals as goal

pub returns-then-l-lt-MAX_LOCKS : goal.returns-then-l-lt-MAX_LOCKS
returns-then-l-lt-MAX_LOCKS c = with_in c.args.mask c.args.l c.if-l-lt-MAX_LOCKS.true

pub returns-else-l-lt-MAX_LOCKS : goal.returns-else-l-lt-MAX_LOCKS
returns-else-l-lt-MAX_LOCKS c = with_none c.args.mask c.args.l c.if-l-lt-MAX_LOCKS.false
