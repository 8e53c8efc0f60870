-- The parts of a book by their places in it, from 0: the rules speak of them by these. Assumes nothing.
use Rattle.std.specs.Prelude.{ℕ}
use Rattle.book.specs.declared.entry.Part.{Part}
use Rattle.book.specs.declared.entry.Part.TheVariants.{Tasks, Locks, Uses, Events}

abbrev pub index_of : Part → ℕ
index_of Tasks = 0
index_of Locks = 1
index_of Uses = 2
index_of Events = 3
