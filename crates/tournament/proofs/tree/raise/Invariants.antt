-- The places from i on are made. Assumes nothing.
use Rattle.tournament.proofs.BuildLaws.{RaisedSoFar}
use Rattle.tournament.proofs.tree.raise.Given as goal

abbrev pub invariant-loop-i : goal.invariant-loop-i
invariant-loop-i l = RaisedSoFar l.n l.fn.keys l.i l.keys
