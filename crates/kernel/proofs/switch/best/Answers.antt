-- `kernel::switch::best` meets its contract, by the root. Assumes nothing.
use Rattle.tournament.proofs.Election.{tasks_few, top_says}
use Rattle.kernel.proofs.switch.best.Goals as goal

pub returns : goal.returns
returns c = c.best_by.ensures _ (tasks_few _ _ _ c.requires) (top_says _ _ _ c.requires _ c.top.ensures)
