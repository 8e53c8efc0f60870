-- `kernel::switch::switch` meets its contract. The root is read. Assumes nothing.
use Rattle.tournament.proofs.Election.{top_says}
use Rattle.kernel.proofs.switch.switch.Goals as goal

pub run-requires : goal.run-requires
run-requires c = (c.requires, top_says _ _ _ c.requires _ c.top-root.ensures)
