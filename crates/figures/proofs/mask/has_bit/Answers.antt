-- `figures::mask::has_bit` meets its contract. A shift by l places divides by 2 ^ l, and above the last lock no bit stands.
use Rattle.std.proofs.Common.{refl}
use Rattle.rules.specs.Numbers.Mask.{has_bit}
use Rattle.figures.proofs.Sets.{bit_high}
use Rattle.figures.proofs.mask.has_bit.Goals as goal

pub returns-then-l-lt-MAX_LOCKS : goal.returns-then-l-lt-MAX_LOCKS
unfolding has_bit
returns-then-l-lt-MAX_LOCKS c = refl

pub returns-else-l-lt-MAX_LOCKS : goal.returns-else-l-lt-MAX_LOCKS
returns-else-l-lt-MAX_LOCKS c = bit_high c.args.mask c.args.l c.ranges.mask.fits c.if-l-lt-MAX_LOCKS.false
