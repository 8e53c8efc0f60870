-- `task::row_sound` meets its contract: what is left of the row is tested as the whole row is.
use Rattle.std.proofs.Common.{arith}
use Rattle.sound.proofs.Rows.{row_unknown, row_undeclared, row_next, row_ends}
use Rattle.sound.proofs.task.row_sound.Goals as goal
use Rattle.sound.proofs.task.row_sound.Goals.{then-m-l-via-then-m-l, then-m-l-via-else-m-l+then-not-has_bit}

pub returns-then-m-l : goal.returns-then-m-l
returns-then-m-l c =
    let unknown = row_unknown c.args.m c.args.uses c.args.row c.args.k c.loop.rest c.loop.counter c.loop.invariant (omega arith) in
    let undeclared = row_undeclared c.args.m c.args.uses c.args.row c.args.k c.loop.rest c.loop.counter c.loop.invariant (omega arith) in
    elim c.then-m-l.branch [ then-m-l-via-then-m-l w ↦ grind (arith, unknown) | then-m-l-via-else-m-l+then-not-has_bit w ↦ grind (arith, undeclared) ]

pub loop-preserved : goal.loop-preserved
loop-preserved c =
    grind (arith, row_next c.args.m c.args.uses c.args.row c.args.k c.loop.rest c.loop.counter c.loop.invariant (omega arith))

pub returns : goal.returns
returns c = row_ends c.args.m c.args.uses c.args.row c.args.k c.loop.rest c.loop.counter c.loop.invariant (omega arith)
