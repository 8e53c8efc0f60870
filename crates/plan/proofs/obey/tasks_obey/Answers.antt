-- `plan::obey::tasks_obey` meets its contract. Each turn takes one task in.
use Rattle.std.proofs.Common.{arith}
use Rattle.plan.proofs.Places.{every_none, every_more, every_all}
use Rattle.plan.proofs.obey.tasks_obey.Goals as goal

pub loop-t-init : goal.loop-t-init
loop-t-init c = every_none _

pub loop-t-preserved : goal.loop-t-preserved
loop-t-preserved c = every_more _ _ _ _ c.loop-t.invariant c.task_obeys-right.ensures

pub returns : goal.returns
returns c = every_all _ _ _ _ c.loop-t.invariant (omega arith)
