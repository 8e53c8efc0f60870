-- `plan::faults::first_record` meets its contract. Each check is asked where those before it found no offender.
use Rattle.std.proofs.Common.{rules, arith, ◌<◌, length, sym}
use Rattle.rules.specs.Books.Load.{count_fault_of, record_checks}
use Rattle.rules.proofs.Numbers.Checks.{check_none}
use Rattle.plan.proofs.First.{place_some, place_refuses, place_passes}
use Rattle.plan.proofs.faults.first_record.Goals as goal

pub overflow_add-result : goal.overflow_add-result
overflow_add-result c =
    let h : c.in-Some.e < 3 = (place_some (count_fault_of (length c.args.tasks.now) (length c.args.locks.now) (length c.args.uses.now)) 3 c.in-Some.e (search rules)).1 in
    omega arith

pub returns-in-Some : goal.returns-in-Some
unfolding record_checks
returns-in-Some c = place_refuses _ _ c.in-Some.e _ (search rules) (omega arith)

pub returns-in-Some-first_task : goal.returns-in-Some-first_task
unfolding record_checks
returns-in-Some-first_task c = place_passes _ _ _ (search rules) (place_refuses _ _ c.in-Some-first_task.t _ (search rules) (omega arith))

pub returns-in-Some-first_lock : goal.returns-in-Some-first_lock
unfolding record_checks
returns-in-Some-first_lock c =
    place_passes _ _ _ (search rules) (place_passes _ _ _ (search rules) (place_refuses _ _ c.in-Some-first_lock.l _ (search rules) (omega arith)))

pub returns-in-Some-first_use : goal.returns-in-Some-first_use
unfolding record_checks
returns-in-Some-first_use c = place_passes _ _ _ (search rules)
    (place_passes _ _ _ (search rules)
    (place_passes _ _ _ (search rules) (place_refuses _ _ c.in-Some-first_use.u _ (search rules) (omega arith))))

pub returns : goal.returns
unfolding record_checks
returns c = place_passes _ _ _ (search rules)
    (place_passes _ _ _ (search rules) (place_passes _ _ _ (search rules) (place_passes _ _ _ (search rules) (sym check_none))))
