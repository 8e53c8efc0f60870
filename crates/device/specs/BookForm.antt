-- RULES 6.4: the task records of a book as a table, what a book answers of its plan, and the book of a table's records. Assumes nothing.
use Rattle.std.specs.Prelude.{◌≡◌, false, List, [], ℕ, ◌+◌, ◌*◌, ◌≤◌, ◌<◌, length, Ok}
use Rattle.rules.specs.Numbers.Place.{at, tabulate}
use Rattle.rules.specs.Numbers.Refusal.{first_fault}
use Rattle.rules.specs.Books.Plan.{count_fault}
use Rattle.rules.specs.Books.Book.{contents, count_at, body_at, layout_fault, event_checks}
use Rattle.rules.specs.Books.Bytes.{book_of}
use Rattle.rules.specs.Books.Load.{Loaded}
use Rattle.rules.specs.Books.Book.{Checked}
use Rattle.device.specs.Table.{numbers_of}
use Rattle.device.specs.declared.table.TaskRecord.{TaskRecord}

-- the task records of a book, as a table
abbrev pub record_at : List ℕ → ℕ → TaskRecord
record_at b i = record { base = at b (body_at b 0 + i * 2); maximum = at b (body_at b 0 + i * 2 + 1) }

abbrev pub records_of : List ℕ → List TaskRecord
records_of b = tabulate (count_at b 0) (record_at b)

-- the plan or refusal that a book gives
abbrev pub answer_of : Checked → Loaded
answer_of c = record { verdict = c.verdict; plan = c.plan }

-- nothing but its plan can be refused in a book: it has its contents (1), is laid out right (3), has not too many events (2) and no wrong one (8), and there is
-- row space (9).
-- What is left is 2 for tasks, locks and uses, 4 to 7 and 24
pub record OnlyPlan (b : List ℕ) (room : ℕ) : Type 0 where
  pub whole : contents ≤ length b
  pub layout : (e : ℕ) → e < 5 → layout_fault b e ≡ false
  pub events : count_fault 3 (count_at b 3) ≡ false
  pub records : first_fault (event_checks b room) ≡ Ok tt

-- the book of a table's records: as every book, by their numbers, and without events
abbrev pub table_book : List TaskRecord → List ℕ → List ℕ → List ℕ
table_book ts locks uses = book_of (numbers_of ts) locks uses []
