-- `scheduler::by_value::step_sound` meets its contract. A state that passes the test is sound, with all its places. Assumes nothing.
use Rattle.std.proofs.Common.{rules}
use Rattle.scheduler.proofs.StepLaws.{tested_sound}
use Rattle.scheduler.proofs.by_value.step_sound.Goals as goal

pub run_one-requires : goal.run_one-requires
run_one-requires c = search (tested_sound, rules)
