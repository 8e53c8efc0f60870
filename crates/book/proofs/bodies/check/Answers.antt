-- `bodies::check` meets its contract. The plan is refused, or the events decide.
use Rattle.std.proofs.Common.{rules}
use Rattle.rules.proofs.Numbers.Checks.{handed_on}
use Rattle.book.proofs.Order.{refused_plan, passed_plan, plan_read}
use Rattle.book.proofs.bodies.check.Goals as goal

pub returns-in_err-plan : goal.returns-in_err-plan
returns-in_err-plan c = refused_plan _ _ _ _ (handed_on _ _ c.from_residual.ensures.1) c.in_err-plan.ensures

pub check-requires : goal.check-requires
check-requires c = (search rules, plan_read _ _ c.in_ok-plan.ensures)

pub returns : goal.returns
returns c = passed_plan _ _ _ _ c.in_ok-plan.ensures c.check.ensures
