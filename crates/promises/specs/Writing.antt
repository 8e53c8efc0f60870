-- RULES 14.5: the writer and the reader, as calls of the code. Assumes nothing.
use Rattle.std.specs.Prelude.{◌≡◌, true, false, List, ℕ, Result, ◌*◌, ◌≤◌, ◌<◌, length}
use contract.Lifetimes.{Lfts}
use Rattle.rules.specs.Numbers.Place.{at}
use Rattle.rules.specs.Numbers.Answer.{verdict_number, verdict_place, found_some, found_event}
use Rattle.rules.specs.Books.Event.{number_event}
use Rattle.rules.specs.Books.Book.{tasks_of, locks_of, uses_of, event_numbers_of}
use Rattle.rules.specs.Books.Bytes.{book_of}
use Rattle.rules.specs.Books.Write.{Wrote, wrote_with}
use Rattle.rules.specs.Demands.Written.{WrittenBack}
use Rattle.rules.specs.Books.Book.{Checked, checked_with}
use Rattle.rules.specs.declared.answer.Found.{Found}
use Rattle.rules.specs.Books.Load.{loaded_with}
use Rattle.rules.specs.declared.plan.Plan.{Plan}
use Rattle.rules.specs.declared.answer.Fault.{Fault}
use Rattle.rules.specs.declared.answer.Opened.{Opened}
use Rattle.plan.proofs.load.Reads as load
use Rattle.book.proofs.check.Reads as check
use Rattle.book.proofs.reader.read_in.Reads as read-in
use Rattle.book.proofs.writer.write.Reads as write

-- reading what was written from these records: b is the book, c what `check` answers of it with row space for its events
pub record ReadsBack (tasks locks uses events b : List ℕ) (c : Checked) : Type 0 where
  -- it is refused nothing, and its plan is the one that `load` gives of the records
  pub accepted : verdict_number c.verdict ≡ 0
  pub plan : (κs : Lfts 3) (given : _) (left : _) (l : Result Plan Fault) → load.Post κs given l left
      → given.0.now ≡ tasks → given.1.0.now ≡ locks → given.1.1.0.now ≡ uses → c.plan ≡ (loaded_with l).plan
  -- from the place that `check` gives on, `read_in` finds the records' events in order, and then the end
  pub found : (κs : Lfts 1) (lent : _) (left : _) (r : Found) → read-in.Post κs lent r left → lent.0.now ≡ b → lent.1.0 ≡ c.events
      → lent.1.1.0 < length events → (found_some r ≡ true) × (found_event r ≡ number_event (at events lent.1.1.0))
  pub end : (κs : Lfts 1) (lent : _) (left : _) (r : Found) → read-in.Post κs lent r left → lent.0.now ≡ b → lent.1.0 ≡ c.events
      → length events ≤ lent.1.1.0 → found_some r ≡ false

-- writing what was read: of a book b of bytes that `check` accepts, `write` makes the same bytes again where the buffer has room
abbrev pub WritesAgain : List ℕ → Type 0
WritesAgain b = (κs : Lfts 5) (given : _) (left : _) (r : Result ℕ Fault) → write.Post κs given r left
    → given.0.now ≡ tasks_of b → given.1.0.now ≡ locks_of b → given.1.1.0.now ≡ uses_of b → given.1.1.1.0.now ≡ event_numbers_of b
    → length b ≤ length given.1.1.1.1.0.now → WrittenBack b (wrote_with r left.1.1.1.1.0.now)

-- where `check` refuses the records' bytes, with row space for the events, `write` has refused the records alike
abbrev pub RefusesAlike : (tasks locks uses events : List ℕ) → Wrote → Type 0
RefusesAlike tasks locks uses events w = (κs : Lfts 1) (lent : _) (left : _) (c : Result Opened Fault) → check.Post κs lent c left
    → lent.0.now ≡ book_of tasks locks uses events → length events * 4 ≤ lent.1.0 → 0 < verdict_number (checked_with c).verdict
    → (verdict_number w.verdict ≡ verdict_number (checked_with c).verdict) × (verdict_place w.verdict ≡ verdict_place (checked_with c).verdict)
