-- `plan::ceilings::wrong_ceiling` meets its contract. The lock has fewer than two users where it is not shared.
use Rattle.std.proofs.Common.{arith}
use Rattle.plan.proofs.Users.{ceiling_parts}
use Rattle.plan.proofs.ceilings.wrong_ceiling.Goals as goal

pub returns-then-not-has_bit : goal.returns-then-not-has_bit
returns-then-not-has_bit c =
    rw (ceiling_parts c.args.p.now c.args.shared c.args.l (c.requires.shared_value c.args.l), ← c.has_bit.ensures) (grind arith)

pub returns-else-not-has_bit : goal.returns-else-not-has_bit
returns-else-not-has_bit c =
    rw (ceiling_parts c.args.p.now c.args.shared c.args.l (c.requires.shared_value c.args.l), ← c.has_bit.ensures, ← c.users_base.ensures) (grind arith)
