-- `kernel::tick::tick` meets its contract. The word is found, and whoever runs goes on with it. Assumes nothing.
use Rattle.kernel.proofs.EventLaws.{tick_stands, tick_acts}
use Rattle.kernel.proofs.tick.tick.Goals as goal

pub enter-requires : goal.enter-requires
enter-requires c = c.requires.0.idle

pub best-requires : goal.best-requires
best-requires c = tick_stands c.args.plan.now c.args.state.now _ _ _ c.enter.ensures c.requires.1

pub returns : goal.returns
returns c = tick_acts _ _ _ _ _ _ _ c.enter.ensures c.best.ensures c.requires.1.tasks c.second_word-state.ensures
