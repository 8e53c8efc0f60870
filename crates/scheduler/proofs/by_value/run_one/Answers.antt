-- `scheduler::by_value::run_one` meets its contract. What a run of one event comes to is its step. Assumes nothing.
use Rattle.std.proofs.Common.{refl}
use Rattle.scheduler.proofs.StepLaws.{stepped_once}
use Rattle.scheduler.proofs.by_value.run_one.Goals as goal

pub returns : goal.returns
returns c = stepped_once _ _ _ _ _ _ refl c.requires _ _ _ _ c.run_from-verdict.ensures c.answer_from.ensures
