-- `kernel::switch::best_by` meets its contract, by the root. Assumes nothing.
use Rattle.tournament.proofs.Election.{root_second}
use Rattle.kernel.proofs.switch.best_by.Goals as goal

pub returns : goal.returns
returns c n few says = search root_second
