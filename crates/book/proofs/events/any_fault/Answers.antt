-- `events::any_fault` meets its contract. Each turn asks one record.
use Rattle.std.proofs.Common.{rules}
use Rattle.rules.proofs.Numbers.Place.{asked_start, asked_next}
use Rattle.book.proofs.events.any_fault.Goals as goal

pub loop-k-init : goal.loop-k-init
loop-k-init c = asked_start _ _

pub loop-k-preserved : goal.loop-k-preserved
loop-k-preserved c = asked_next _ _ _ _ _ c.loop-k.invariant (search rules) c.fault_at-found.ensures
