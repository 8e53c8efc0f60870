-- RULES 14.5: what is written can be read, what was read can be written, and the writer refuses what the reader would. Assumes nothing.
use Rattle.std.specs.Prelude.{◌≡◌, List, map, ℕ, ◌*◌, ◌≤◌, ◌<◌, length, take}
use Rattle.rules.specs.Numbers.Place.{at}
use Rattle.rules.specs.Numbers.Answer.{verdict_number, verdict_place}
use Rattle.rules.specs.Books.Event.{number_event}
use Rattle.rules.specs.Books.Load.{load_of}
use Rattle.rules.specs.Books.Book.{tasks_of, locks_of, uses_of, event_numbers_of, events_of, check_of, checked_of}
use Rattle.rules.specs.Books.Bytes.{book_of, Bytes, Fit}
use Rattle.rules.specs.Books.Write.{Wrote, write_of}

-- the book that stands in a buffer: as many bytes as the writer answers
abbrev pub book_in : Wrote → List ℕ
book_in w = take w.length w.bytes

-- reading what was written: a book that is refused nothing with row space for its events, gives the plan that a load of these records gives, has their
-- events in order, and the very records
pub record ReadsAs (tasks locks uses events : List ℕ) (b : List ℕ) : Type 0 where
  pub accepted : (room : ℕ) → length events * 4 ≤ room → verdict_number (checked_of b room).verdict ≡ 0
  pub plan : (room : ℕ) → length events * 4 ≤ room → (checked_of b room).plan ≡ (load_of tasks locks uses).plan
  pub list : events_of b ≡ map number_event events
  pub records : (tasks_of b ≡ tasks) × (locks_of b ≡ locks) × (uses_of b ≡ uses) × (event_numbers_of b ≡ events)

-- the writer refuses with the number and the place that a reader with row space enough gives for the records' bytes; where that reader accepts them,
-- it refuses with 23 exactly where the buffer is shorter than the book
pub record RefusesAs (tasks locks uses events buffer : List ℕ) (w : Wrote) : Type 0 where
  pub number : (room : ℕ) → length events * 4 ≤ room → 0 < verdict_number (check_of (book_of tasks locks uses events) room)
      → verdict_number w.verdict ≡ verdict_number (check_of (book_of tasks locks uses events) room)
  pub place : (room : ℕ) → length events * 4 ≤ room → 0 < verdict_number (check_of (book_of tasks locks uses events) room)
      → verdict_place w.verdict ≡ verdict_place (check_of (book_of tasks locks uses events) room)
  pub short : (room : ℕ) → verdict_number (check_of (book_of tasks locks uses events) room) ≡ 0 → length buffer < length (book_of tasks locks uses events)
      → (verdict_number w.verdict ≡ 23) × (verdict_place w.verdict ≡ 0)
  pub enough : (room : ℕ) → verdict_number (check_of (book_of tasks locks uses events) room) ≡ 0 → length (book_of tasks locks uses events) ≤ length buffer
      → verdict_number w.verdict ≡ 0

-- what is asked of w, which the writer made of these records and this buffer
pub record WrittenAs (tasks locks uses events buffer : List ℕ) (w : Wrote) : Type 0 where
  -- where nothing is refused the records' book stands in the buffer, and reads as them; it is of bytes where two bytes hold each count
  pub book : verdict_number w.verdict ≡ 0 → book_in w ≡ book_of tasks locks uses events
  pub reads : verdict_number w.verdict ≡ 0 → ReadsAs tasks locks uses events (book_in w)
  pub bytes : Fit tasks locks uses events → Bytes (book_of tasks locks uses events)
  -- the bytes after the book stay; beside a refusal its length is 0, so that all of them do
  pub none : 0 < verdict_number w.verdict → w.length ≡ 0
  pub stay : (i : ℕ) → w.length ≤ i → at w.bytes i ≡ at buffer i
  pub size : length w.bytes ≡ length buffer
  pub refuses : RefusesAs tasks locks uses events buffer w

-- writing what was read: from an accepted book of bytes, into a buffer that has room for it, the same bytes
pub record WrittenBack (b : List ℕ) (w : Wrote) : Type 0 where
  pub accepted : verdict_number w.verdict ≡ 0
  pub size : w.length ≡ length b
  pub book : book_in w ≡ b

pub record Writing : Type 0 where
  pub written : (tasks locks uses events buffer : List ℕ) → WrittenAs tasks locks uses events buffer (write_of tasks locks uses events buffer)
  pub again : (b : List ℕ) (room : ℕ) (buffer : List ℕ) → Bytes b → verdict_number (check_of b room) ≡ 0 → length b ≤ length buffer
      → WrittenBack b (write_of (tasks_of b) (locks_of b) (uses_of b) (event_numbers_of b) buffer)
