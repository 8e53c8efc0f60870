-- RULES 19.10: what `show` writes for an accepted book is a text whose records are the book's, so that `compose` writes the same bytes from it. Assumes nothing.
use Rattle.std.specs.Prelude.{◌≡◌, List, ℕ, ◌≤◌, None, length, take}
use Rattle.rules.specs.Numbers.Answer.{verdict_number}
use Rattle.rules.specs.Books.Book.{tasks_of, locks_of, uses_of, event_numbers_of, check_of}
use Rattle.rules.specs.Books.Bytes.{Bytes}
use Rattle.texts.specs.Lines.{lines_of, read_lines, records_of, first_wrong}
use Rattle.office.specs.Ran.{row_space}
use Rattle.office.specs.Show.{shown_of}
use Rattle.office.specs.Compose.{text_space, Composed, compose_of}

-- the text of a book: no line has a mistake, the records of each part are the book's, and it is no longer than a text may be
pub record ReadAgain (b : List ℕ) : Type 0 where
  pub right : first_wrong 0 (read_lines (shown_of b)) ≡ None
  pub tasks : records_of 0 (lines_of (shown_of b)) ≡ tasks_of b
  pub locks : records_of 1 (lines_of (shown_of b)) ≡ locks_of b
  pub uses : records_of 2 (lines_of (shown_of b)) ≡ uses_of b
  pub events : records_of 3 (lines_of (shown_of b)) ≡ event_numbers_of b
  pub fits : length (shown_of b) ≤ text_space

-- the book that composing gives, in a buffer that has room for it
pub record ComposedAgain (b : List ℕ) (c : Composed) : Type 0 where
  pub size : c.length ≡ length b
  pub book : take c.length c.bytes ≡ b
  pub said : length c.said ≡ 0

-- of every accepted book, which is one that 1 to 8 and 24 refuse nothing of
pub record Again : Type 0 where
  pub reads : (b : List ℕ) → Bytes b → verdict_number (check_of b row_space) ≡ 0 → ReadAgain b
  pub composes : (b buffer : List ℕ) → Bytes b → verdict_number (check_of b row_space) ≡ 0 → length b ≤ length buffer → ComposedAgain b (compose_of (shown_of b) buffer)
