-- `kernel::act::act` meets its contract. The event is refused with what its tests say, or accepted. Assumes nothing.
use Rattle.std.proofs.Common.{sym}
use Rattle.rules.proofs.Numbers.Checks.{handed_on}
use Rattle.kernel.proofs.Ready.{but_for_user}
use Rattle.kernel.proofs.EventLaws.{act_refused, act_accepted}
use Rattle.kernel.proofs.act.act.Goals as goal

pub refusal-requires : goal.refusal-requires
refusal-requires c = but_for_user (record { protocol = c.args.protocol; sound = c.requires.0 })

pub accept-requires : goal.accept-requires
accept-requires c = (record { protocol = c.args.protocol; sound = c.requires.0; passed = sym c.in_ok-refusal.ensures }, c.requires.1)

pub returns-in_err-refusal-clause-state_after : goal.returns-in_err-refusal-clause-state_after
returns-in_err-refusal-clause-state_after c = rw (handed_on _ _ c.from_residual.ensures.1) (act_refused _ _ _ _ _ c.in_err-refusal.ensures)

pub returns-clause-state_after : goal.returns-clause-state_after
returns-clause-state_after c = act_accepted _ _ _ _ _ _ c.in_ok-refusal.ensures c.accept.ensures.call c.accept.ensures.state_after
