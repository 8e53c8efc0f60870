-- `kernel::release::release` meets its contract. The newcomer arrives. Assumes nothing.
use Rattle.std.proofs.Common.{refl}
use Rattle.tournament.proofs.Election.{tasks_few}
use Rattle.kernel.proofs.Ready.{release_in, release_idle, release_arrives}
use Rattle.kernel.proofs.EventLaws.{release_stands, release_acts}
use Rattle.kernel.proofs.release.release.Goals as goal

pub bounds-state-x : goal.bounds-state-x
bounds-state-x c = release_in c.requires.0 (tasks_few _ _ _ c.requires.1)

pub bounds-state-x-2 : goal.bounds-state-x-2
bounds-state-x-2 c = release_in c.requires.0 (tasks_few _ _ _ c.requires.1)

pub bounds-plan-x : goal.bounds-plan-x
bounds-plan-x c = release_in c.requires.0 (tasks_few _ _ _ c.requires.1)

pub enter-requires : goal.enter-requires
enter-requires c = release_idle c.requires.0 (tasks_few _ _ _ c.requires.1)

pub arrive-requires : goal.arrive-requires
arrive-requires c = (
  release_arrives c.requires.0 (tasks_few _ _ _ c.requires.1) _ c.requires.1.tasks _ _ refl refl refl c.enter.ensures,
  release_stands _ _ _ _ _ _ c.requires.0 c.enter.ensures c.requires.1,
)

pub returns-clause-state_after : goal.returns-clause-state_after
returns-clause-state_after c = release_acts _ _ _ _ _ _ _ _ c.enter.ensures c.requires.1.tasks c.kernel_of.ensures c.arrive.ensures.state_after
