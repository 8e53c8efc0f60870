-- `kernel::switch::elect` meets its contract, by the root. Assumes nothing.
use Rattle.tournament.proofs.Election.{root_elects}
use Rattle.kernel.proofs.switch.elect.Goals as goal

pub returns : goal.returns
returns c n few says = search root_elects
