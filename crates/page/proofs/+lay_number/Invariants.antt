-- the measure is the number
use Rattle.page.proofs.+lay_number.Given as goal

abbrev pub decreases-lay_number : goal.decreases-lay_number
decreases-lay_number l = l.n
