-- It falls on the number of takes.
use Rattle.sound.proofs.priority.+row_saves.Given as goal

abbrev pub decreases-row_saves : goal.decreases-row_saves
decreases-row_saves l = l.k
