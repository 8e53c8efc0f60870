-- `kernel::work::charge` meets its contract. Each turn charges one section, or an older take counts it. Assumes nothing.
use Rattle.std.proofs.Common.{refl, arith}
use Rattle.kernel.proofs.WorkLaws.{row_newest, bump_older, bump_more, charge_next, charge_ends}
use Rattle.kernel.proofs.work.charge.Goals as goal

pub loop-older-init : goal.loop-older-init
loop-older-init c = record { locks = c.requires; rest = refl }

pub bounds-units-y : goal.bounds-units-y
bounds-units-y c = omega (arith, row_newest _ _ _ c.loop-older.invariant.locks (omega arith))

pub bounds-units-y-then-not-has_lock : goal.bounds-units-y-then-not-has_lock
bounds-units-y-then-not-has_lock c = omega (arith, row_newest _ _ _ c.loop-older.invariant.locks (omega arith))

pub loop-older-preserved-then-not-has_lock : goal.loop-older-preserved-then-not-has_lock
loop-older-preserved-then-not-has_lock c =
    charge_next _ _ _ _ _ _ _ _ _ _ _ c.loop-older.invariant (omega arith) c.newest_of-l.ensures c.under_of-left.ensures c.has_lock.ensures
    (bump_more _ _ _ _ _ c.if-not-has_lock.true (omega arith))

pub loop-older-preserved : goal.loop-older-preserved
loop-older-preserved c =
    charge_next _ _ _ _ _ _ _ _ _ _ _ c.loop-older.invariant (omega arith) c.newest_of-l.ensures c.under_of-left.ensures c.has_lock.ensures
    (bump_older _ _ _ _ c.if-not-has_lock.false)

pub returns : goal.returns
returns c = charge_ends _ _ _ _ _ _ _ c.loop-older.invariant (omega arith)
