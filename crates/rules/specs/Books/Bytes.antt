-- RULES 4.1 to 4.7: the bytes of a book, from its records as numbers. Assumes nothing.
use Rattle.std.specs.Prelude.{List, [], ◌∷◌, ◌++◌, ℕ, ◌+◌, ◌/◌, ◌%◌, ◌^◌, ◌<◌, length}
use Rattle.rules.specs.Numbers.Place.{at}
use Rattle.rules.specs.Books.Book.{contents}

-- RULES 4.1: numbers of two and of four bytes, low byte first; the last byte takes what is left, so that nothing is lost
abbrev pub two : ℕ → List ℕ
two w = w % 256 ∷ w / 256 ∷ []

abbrev pub four : ℕ → List ℕ
four w = w % 256 ∷ w / 256 % 256 ∷ w / 65536 % 256 ∷ w / 16777216 ∷ []

-- a body of records of two bytes, and one of records of four
unfoldable pub word_bytes : List ℕ → List ℕ
word_bytes [] = []
word_bytes (w ∷ ws) = two w ++ word_bytes ws

unfoldable pub long_bytes : List ℕ → List ℕ
long_bytes [] = []
long_bytes (w ∷ ws) = four w ++ long_bytes ws

-- RULES 4.2: an entry of the contents: its kind, its count of records, its offset
abbrev pub entry_of : ℕ → ℕ → ℕ → List ℕ
entry_of kind count offset = two kind ++ (two count ++ four offset)

-- RULES 4.3: the contents and the bodies of so many records. The first body starts after the contents, each other one where the body before it ends
abbrev pub contents_of : (tasks locks uses events : List ℕ) → List ℕ
contents_of tasks locks uses events =
    entry_of 1 (length tasks) contents
    ++ (entry_of 2 (length locks) (contents + length (word_bytes tasks))
    ++ (entry_of 3 (length uses) (contents + length (word_bytes tasks) + length (long_bytes locks))
    ++ entry_of 4 (length events) (contents + length (word_bytes tasks) + length (long_bytes locks) + length (word_bytes uses))))

abbrev pub bodies_of : (tasks locks uses events : List ℕ) → List ℕ
bodies_of tasks locks uses events = word_bytes tasks ++ (long_bytes locks ++ (word_bytes uses ++ long_bytes events))

unfoldable pub book_of : (tasks locks uses events : List ℕ) → List ℕ
book_of tasks locks uses events = contents_of tasks locks uses events ++ bodies_of tasks locks uses events

-- every one is a byte
abbrev pub Bytes : List ℕ → Type 0
Bytes b = (i : ℕ) → at b i < 2 ^ 8

-- the records fit their numbers, two bytes for a task and a use and four for a lock and an event, and two bytes hold each count
pub record Fit (tasks locks uses events : List ℕ) : Type 0 where
  pub task_numbers : (i : ℕ) → at tasks i < 2 ^ 16
  pub lock_numbers : (i : ℕ) → at locks i < 2 ^ 32
  pub use_numbers : (i : ℕ) → at uses i < 2 ^ 16
  pub event_numbers : (i : ℕ) → at events i < 2 ^ 32
  pub task_count : length tasks < 2 ^ 16
  pub lock_count : length locks < 2 ^ 16
  pub use_count : length uses < 2 ^ 16
  pub event_count : length events < 2 ^ 16
