-- `texts::number::with_digit` meets its contract. A byte below the digits, and another. Assumes nothing.
use native.Mathlib.Omega.{arith}
use Rattle.texts.proofs.Values.{grown_low, grown_by}
use Rattle.texts.proofs.number.with_digit.Goals as goal

pub returns-then-c-lt48 : goal.returns-then-c-lt48
returns-then-c-lt48 c = grown_low c.args.v c.args.c (omega arith)

pub returns : goal.returns
returns c = omega (arith, grown_by c.args.v c.args.c (omega arith))
