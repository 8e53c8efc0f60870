-- The places up to place i are put right. Assumes nothing.
use Rattle.std.proofs.Common.{◌+◌, set}
use Rattle.tournament.specs.Tree.{inner}
use Rattle.tournament.proofs.TreeLaws.{ClimbedSoFar}
use Rattle.tournament.proofs.tree.put.Given as goal

abbrev pub invariant-loop-i : goal.invariant-loop-i
invariant-loop-i l = ClimbedSoFar l.n (inner l.n + l.t) (set l.fn.keys (inner l.n + l.t) l.key) l.i l.v l.keys

abbrev pub decreases-loop-i : goal.decreases-loop-i
decreases-loop-i l = l.i
