use Rattle.book.proofs.LaidOut.{BodiesSoFar}
use Rattle.book.proofs.entry.end_of.Given as goal

abbrev pub invariant-loop-part : goal.invariant-loop-part
invariant-loop-part l = BodiesSoFar l.b l.part-index l.place
