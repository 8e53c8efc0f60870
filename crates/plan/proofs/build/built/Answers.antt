-- `plan::build::built` meets its contract. Each turn writes one record in its place, and puts one use in its task's set.
use Rattle.std.proofs.Common.{rules, arith, refl}
use Rattle.rules.specs.Books.Load.{masks_of}
use Rattle.rules.proofs.Numbers.Place.{renewed_start, renewed_next, renewed_ends}
use Rattle.plan.proofs.Masks.{masks_start, masks_next, masks_end, task_in_lem}
use Rattle.plan.proofs.Tables.{as_plan}
use Rattle.plan.proofs.build.built.Goals as goal

pub loop-t-init : goal.loop-t-init
loop-t-init c = (renewed_start _ _ _, renewed_start _ _ _)

pub loop-t-preserved : goal.loop-t-preserved
loop-t-preserved c = (
  renewed_next _ _ _ _ _ _ c.loop-t.invariant.0 (search rules) (search rules),
  renewed_next _ _ _ _ _ _ c.loop-t.invariant.1 (search rules) (search rules),
)

pub loop-l-init : goal.loop-l-init
loop-l-init c = (renewed_start _ _ _, renewed_start _ _ _)

pub loop-l-preserved : goal.loop-l-preserved
loop-l-preserved c = (
  renewed_next _ _ _ _ _ _ c.loop-l.invariant.0 (search rules) (search rules),
  renewed_next _ _ _ _ _ _ c.loop-l.invariant.1 (search rules) (search rules),
)

pub loop-w-init : goal.loop-w-init
unfolding masks_of
loop-w-init c = masks_start _ _ refl

pub bounds-masks-t : goal.bounds-masks-t
bounds-masks-t c = search (task_in_lem, rules)

pub bounds-masks-t-in-loop-w : goal.bounds-masks-t-in-loop-w
bounds-masks-t-in-loop-w c = search (task_in_lem, rules)

pub loop-w-preserved : goal.loop-w-preserved
loop-w-preserved c = search (masks_next, rules)

pub returns : goal.returns
returns c = as_plan _ _ _ _ _ _ _ _ c.requires.tasks_len_bound
    (renewed_ends _ _ _ _ _ c.loop-t.invariant.0 (omega arith))
    (renewed_ends _ _ _ _ _ c.loop-t.invariant.1 (omega arith))
    (renewed_ends _ _ _ _ _ c.loop-l.invariant.0 (omega arith))
    (renewed_ends _ _ _ _ _ c.loop-l.invariant.1 (omega arith))
    (masks_end _ _ _ c.loop-w.invariant (omega arith))
