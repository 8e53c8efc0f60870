-- `scheduler::run::run` meets its contract. The start is a fresh one, and the first event the body's. Assumes nothing.
use Rattle.std.proofs.Common.{refl}
use Rattle.scheduler.proofs.RunLaws.{run_fresh}
use Rattle.scheduler.proofs.run.run.Goals as goal

pub returns : goal.returns
returns c = (run_fresh _ _ _ _ _ _ _ _ c.fresh-state.ensures c.event_at-first.ensures c.run_from-verdict.ensures, refl)
