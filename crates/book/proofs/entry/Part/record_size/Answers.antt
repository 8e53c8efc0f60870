-- `Part::record_size` meets its contract. Two parts have records of two bytes, and two of four.
use Rattle.std.proofs.Common.{refl, inl, inr, arith}
use Rattle.rules.specs.Books.Book.{size_of}
use Rattle.book.proofs.entry.Part.record_size.Goals as goal

pub returns-in-Tasks : goal.returns-in-Tasks
unfolding size_of
returns-in-Tasks c = elim c.in-Tasks.is [ inl e ↦ rw e (refl, omega arith) | inr e ↦ rw e (refl, omega arith) ]

pub returns-in-Locks : goal.returns-in-Locks
unfolding size_of
returns-in-Locks c = elim c.in-Locks.is [ inl e ↦ rw e (refl, omega arith) | inr e ↦ rw e (refl, omega arith) ]
