-- RULES 4.8: a reader of the event body at a place, and what it finds in a book that is accepted. Assumes nothing.
use Rattle.std.specs.Prelude.{◌≡◌, true, false, List, ℕ, ◌+◌, ◌≤◌, ◌<◌, length}
use Rattle.rules.specs.Numbers.Answer.{found_some, found_event, found_next, found_number}
use Rattle.rules.specs.Books.Book.{events_of}
use Rattle.rules.specs.Demands.History.{event_at}
use Rattle.rules.specs.declared.answer.Found.{Found}
use Rattle.book.specs.declared.reader.Reader.{Reader}

-- the same bytes, read from another place on
abbrev pub reader_at : Reader → ℕ → Reader
reader_at r place = record { body = r.body; place = place }

-- at place k of book b it finds event k, and the next place; after the last event it finds the end; and no record is refused
pub record ReadAt (b : List ℕ) (k : ℕ) (r : Found) : Type 0 where
  pub some : k < length (events_of b) → found_some r ≡ true
  pub event : k < length (events_of b) → found_event r ≡ event_at (events_of b) k
  pub next : k < length (events_of b) → found_next r ≡ k + 1
  pub end : length (events_of b) ≤ k → found_some r ≡ false
  pub number : found_number r ≡ 0
