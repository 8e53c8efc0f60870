-- `kernel::refusals::past` meets its contract. Each turn passes one section by. Assumes nothing.
use Rattle.std.proofs.Common.{refl, arith}
use Rattle.kernel.proofs.Ready.{tasks_in, locks_in}
use Rattle.kernel.proofs.WorkLaws.{row_newest}
use Rattle.kernel.proofs.TestLaws.{row_known, within_next, within_fails, within_ends, past_none, past_some_section}
use Rattle.kernel.proofs.refusals.past.Goals as goal

pub bounds-state-x : goal.bounds-state-x
bounds-state-x c = omega (arith, tasks_in c.requires.sound)

pub bounds-state-x-2 : goal.bounds-state-x-2
bounds-state-x-2 c = omega (arith, tasks_in c.requires.sound)

pub loop-older-init : goal.loop-older-init
loop-older-init c = record { locks = row_known _ _ c.requires.sound; rest = refl }

pub bounds-plan-l : goal.bounds-plan-l
bounds-plan-l c = omega (arith, row_newest _ _ _ c.loop-older.invariant.locks (omega arith), locks_in c.requires.sound)

pub bounds-state-l : goal.bounds-state-l
bounds-state-l c = omega (arith, row_newest _ _ _ c.loop-older.invariant.locks (omega arith), locks_in c.requires.sound)

pub returns : goal.returns
returns c = past_none _ _ c.requires.sound _ (within_ends _ _ _ _ _ _ _ _ c.loop-older.invariant (omega arith))

pub loop-older-preserved : goal.loop-older-preserved
loop-older-preserved c = search within_next

pub returns-then-plan-l : goal.returns-then-plan-l
returns-then-plan-l c = past_some_section _ _ c.requires.sound _ (search within_fails)
