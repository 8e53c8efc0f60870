-- The records of a book as the writer holds them, in the words of the rules. Assumes nothing.
use Rattle.std.specs.Prelude.{List, ℕ, length}
use Rattle.rules.specs.Numbers.Refusal.{Check}
use Rattle.rules.specs.Books.Bytes.{book_of}
use Rattle.rules.specs.Books.Write.{counts_of, write_checks}
use Rattle.book.specs.Room.{Few, Room}
use Rattle.book.specs.declared.lay.Records.{Records}

-- how many a part has, by its place
abbrev pub counts_in : Records → ℕ → ℕ
counts_in r = counts_of r.tasks.now r.locks.now r.uses.now r.events.now

-- the bytes of their book
abbrev pub book_in : Records → List ℕ
book_in r = book_of r.tasks.now r.locks.now r.uses.now r.events.now

-- what is asked of them, and of so much room for their book
abbrev pub checks_in : Records → ℕ → List Check
checks_in r room = write_checks r.tasks.now r.locks.now r.uses.now r.events.now room

-- as many as a book may have
abbrev pub FewIn : Records → Type 0
FewIn r = Few (length r.tasks.now) (length r.locks.now) (length r.uses.now) (length r.events.now)

-- and room for their book
abbrev pub RoomIn : Records → List ℕ → Type 0
RoomIn r out = Room r.tasks.now r.locks.now r.uses.now r.events.now out
