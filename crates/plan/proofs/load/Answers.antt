-- `plan::load` meets its contract. Each check is asked where those before it found no offender.
use Rattle.std.proofs.Common.{rules}
use Rattle.rules.proofs.Numbers.Checks.{handed_on}
use Rattle.plan.proofs.Order.{refused_record, few_records, known, placed, plan_fits, wrong_ceiling, above_maximum, all_right}
use Rattle.plan.proofs.load.Goals as goal

pub returns-in_err-first_record : goal.returns-in_err-first_record
returns-in_err-first_record c =
    refused_record _ _ _ _ _ (handed_on _ _ c.from_residual.ensures.1) c.in_err-first_record.ensures

pub built-plan-requires-clause-tasks_len_bound : goal.built-plan-requires-clause-tasks_len_bound
built-plan-requires-clause-tasks_len_bound c = few_records _ _ _ c.in_ok-first_record.ensures

pub built-plan-requires-clause-placed : goal.built-plan-requires-clause-placed
built-plan-requires-clause-placed c = placed _ _ _ c.in_ok-first_record.ensures

pub first_wrong-requires : goal.first_wrong-requires
first_wrong-requires c = plan_fits _ _ _ c.in_ok-first_record.ensures _ c.built-plan.ensures

pub returns-in-Some : goal.returns-in-Some
returns-in-Some c = wrong_ceiling _ _ _ c.in_ok-first_record.ensures _ c.built-plan.ensures _ (search rules)

pub first_above-requires : goal.first_above-requires
first_above-requires c = known _ _ _ c.in_ok-first_record.ensures

pub returns-in-Some-first_above : goal.returns-in-Some-first_above
returns-in-Some-first_above c = above_maximum _ _ _ c.in_ok-first_record.ensures _ c.built-plan.ensures (search rules) _ (search rules)

pub returns : goal.returns
returns c = all_right _ _ _ c.in_ok-first_record.ensures _ c.built-plan.ensures (search rules) (search rules)
