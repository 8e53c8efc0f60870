-- The keys of the tasks from t on are laid. Assumes nothing.
use Rattle.rules.specs.Numbers.Place.{at}
use Rattle.tournament.proofs.BuildLaws.{LaidSoFar}
use Rattle.tournament.proofs.tree.lay.Given as goal

abbrev pub invariant-loop-t : goal.invariant-loop-t
invariant-loop-t l = LaidSoFar l.n (at l.released) (at l.kept) l.fn.keys l.t l.keys
