-- `plan::lower::longest` meets its contract. Each turn takes one lock in, of those that the plan has places for.
use Rattle.std.proofs.Common.{rules, arith}
use Rattle.rules.proofs.Numbers.Choice.{flags}
use Rattle.plan.proofs.Limits.{limit_start, limit_blocks, limit_passes, longest_here}
use Rattle.plan.proofs.lower.longest.Goals as goal
use Rattle.plan.proofs.lower.longest.Goals.{then-may_block, else-may_block}

pub loop-l-init : goal.loop-l-init
loop-l-init c = limit_start _ _

pub loop-l-preserved : goal.loop-l-preserved
loop-l-preserved c =
    elim c.if-may_block.branch [ then-may_block w ↦ search (limit_blocks, flags, rules) | else-may_block w ↦ search (limit_passes, flags, rules) ]

pub returns : goal.returns
returns c = longest_here _ _ _ _ c.loop-l.invariant (omega arith)
