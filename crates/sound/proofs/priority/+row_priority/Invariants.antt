-- It falls on the number of takes.
use Rattle.sound.proofs.priority.+row_priority.Given as goal

abbrev pub decreases-row_priority : goal.decreases-row_priority
decreases-row_priority l = l.k
