-- `kernel::release::newcomer_waits` meets its contract. The newcomer's base is kept. Assumes nothing.
use Rattle.std.proofs.Common.{◌≡◌, max, rules}
use Rattle.kernel.proofs.SwitchLaws.{newcomer_later}
use Rattle.kernel.proofs.release.newcomer_waits.Goals as goal

pub returns-clause-state_after : goal.returns-clause-state_after
returns-clause-state_after c = let b : c.max.result.0 ≡ max c.args.most.0 c.args.base.0 = search rules in search newcomer_later
