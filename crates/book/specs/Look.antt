-- What stands in a book, whatever its bytes are: an entry of its contents, and record k of each part as one number, 0 where the book is too short to
-- have it. Assumes nothing.
use Rattle.std.specs.Prelude.{List, Option, Some, None, ℕ, ◌+◌, ◌*◌, leb, ltb, length, if◌then◌else◌}
use Rattle.rules.specs.Books.Book.{contents, word, long, kind_at, count_at, offset_at, body_at}
use Rattle.book.specs.declared.look.Entry.{Entry}

abbrev pub no_entry : Entry
no_entry = record { kind = 0; count = 0; offset = 0 }

unfoldable pub entry_in : List ℕ → ℕ → Entry
entry_in b e =
    if ltb (length b) contents then no_entry
    else if ltb 3 e then no_entry
    else record { kind = kind_at b e; count = count_at b e; offset = offset_at b e }

-- where the body of an entry starts; the book's end where it has no contents, or no such entry
unfoldable pub body_in : List ℕ → ℕ → ℕ
body_in b e = if ltb (length b) contents then length b else if ltb 3 e then length b else body_at b e

-- number k of so many bytes each, from a place on, where all its bytes lie in the book
unfoldable pub record_in : {N : Type 0} (size : ℕ) → (ℕ → N) → List ℕ → (from k : ℕ) → Option N
record_in size number_at b from k = if leb (from + k * size + size) (length b) then Some (number_at (from + k * size)) else None

-- the same of two bytes and of four, and 0 where they do not
unfoldable pub word_in : List ℕ → (from k : ℕ) → ℕ
word_in b from k = if leb (from + k * 2 + 2) (length b) then word b (from + k * 2) else 0

unfoldable pub long_in : List ℕ → (from k : ℕ) → ℕ
long_in b from k = if leb (from + k * 4 + 4) (length b) then long b (from + k * 4) else 0

-- record k of each part
unfoldable pub task_in : List ℕ → ℕ → ℕ
task_in b k = word_in b (body_in b 0) k

unfoldable pub lock_in : List ℕ → ℕ → ℕ
lock_in b k = long_in b (body_in b 1) k

unfoldable pub use_in : List ℕ → ℕ → ℕ
use_in b k = word_in b (body_in b 2) k

unfoldable pub event_in : List ℕ → ℕ → ℕ
event_in b k = long_in b (body_in b 3) k
