-- `scheduler::replay` meets its contract. A book that passes is run, and any other is left as it is. Assumes nothing.
use Rattle.std.proofs.Common.{rules}
use Rattle.scheduler.proofs.ReplayLaws.{refused_ran, passed_ran, body_within, plan_sound, body_rows}
use Rattle.scheduler.proofs.replay.Goals as goal

pub slice_bounds-body-count : goal.slice_bounds-body-count
slice_bounds-body-count c = let h = c.in-Ok.ensures in search body_within

pub slice_bounds-body-start : goal.slice_bounds-body-start
slice_bounds-body-start c = let h = c.in-Ok.ensures in search body_within

pub run-requires : goal.run-requires
run-requires c = let h = c.in-Ok.ensures in record { sound = search plan_sound; room = search body_rows }

pub returns-in-Err : goal.returns-in-Err
returns-in-Err c = refused_ran _ _ _ _ _ _ c.in-Err.ensures c.blank.ensures c.fresh.ensures

pub returns-in-Ok : goal.returns-in-Ok
returns-in-Ok c = passed_ran _ _ _ _ c.in-Ok.ensures _ (search rules) _ _ c.run.ensures.0 c.run.ensures.1
