-- `task::own_sound` meets its contract: what is left of the row is tested as the whole row is.
use Rattle.std.proofs.Common.{arith}
use Rattle.sound.proofs.Rows.{own_other, own_next, own_ends}
use Rattle.sound.proofs.task.own_sound.Goals as goal

pub returns-then-at_lock-x : goal.returns-then-at_lock-x
returns-then-at_lock-x c =
    grind (arith, own_other c.args.owner.now c.args.x c.args.row c.args.k c.loop.rest c.loop.counter c.loop.invariant (omega arith))

pub loop-preserved : goal.loop-preserved
loop-preserved c =
    grind (arith, own_next c.args.owner.now c.args.x c.args.row c.args.k c.loop.rest c.loop.counter c.loop.invariant (omega arith))

pub returns : goal.returns
returns c = own_ends c.args.owner.now c.args.x c.args.row c.args.k c.loop.rest c.loop.counter c.loop.invariant (omega arith)
