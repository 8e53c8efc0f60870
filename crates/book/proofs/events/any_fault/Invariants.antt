use Rattle.rules.specs.Books.Book.{record_fault}
use Rattle.rules.proofs.Numbers.Place.{AskedSoFar}
use Rattle.book.proofs.events.any_fault.Given as goal

abbrev pub invariant-loop-k : goal.invariant-loop-k
invariant-loop-k l = AskedSoFar (record_fault l.body) l.k-end l.k l.found
