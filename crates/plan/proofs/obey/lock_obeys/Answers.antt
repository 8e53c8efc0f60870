-- `plan::obey::lock_obeys` meets its contract. Its tests are those of the definition, by the shared locks and what the users say.
use Rattle.std.proofs.Common.{rules, arith}
use Rattle.plan.proofs.Tests.{lock_said}
use Rattle.plan.proofs.obey.lock_obeys.Goals as goal

pub returns-then-ceiling-users : goal.returns-then-ceiling-users
returns-then-ceiling-users c =
    rw (lock_said c.args.p.now c.args.shared c.args.l (c.requires.shared_value c.args.l) (search rules) (search rules)) (grind arith)

pub returns-else-ceiling-users : goal.returns-else-ceiling-users
returns-else-ceiling-users c =
    rw (lock_said c.args.p.now c.args.shared c.args.l (c.requires.shared_value c.args.l) (search rules) (search rules)) (grind arith)
