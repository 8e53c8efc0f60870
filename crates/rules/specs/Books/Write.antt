-- RULES 6.5, 6.6: a book that is written from its records into a lent buffer: 2, 4 to 7, 24, 8 and 23 in order, or the book's bytes. Assumes nothing.
use Rattle.std.specs.Prelude.{List, [], ◌∷◌, ◌++◌, ℕ, eqb, ltb, length, drop, Result, Ok, Err, if◌then◌else◌}
use Rattle.rules.specs.Numbers.Verdict.{Verdict}
use Rattle.rules.specs.Numbers.Place.{at}
use Rattle.rules.specs.Numbers.Refusal.{Check, first_fault}
use Rattle.rules.specs.Books.Event.{number_fault}
use Rattle.rules.specs.Books.Load.{load_checks}
use Rattle.rules.specs.Books.Book.{count_check, event_check}
use Rattle.rules.specs.Books.Bytes.{book_of}
use Rattle.rules.specs.declared.answer.Fault.{Fault}
use Rattle.rules.specs.declared.refusal.Refusal.TheVariants.{ShortBuffer}

-- how many records entry e has, of n tasks, m locks, u uses and k events
abbrev pub count_of : (n m u k : ℕ) → ℕ → ℕ
count_of n m u k e = if eqb e 0 then n else if eqb e 1 then m else if eqb e 2 then u else k

abbrev pub counts_of : (tasks locks uses events : List ℕ) → ℕ → ℕ
counts_of tasks locks uses events e = count_of (length tasks) (length locks) (length uses) (length events) e

-- what is asked of the records of a whole book: 2 (the entry, 1 to 4), those of its plan (4 to 7, 24), 8 (the event)
unfoldable pub whole_checks : (tasks locks uses events : List ℕ) → List Check
whole_checks tasks locks uses events =
    count_check (counts_of tasks locks uses events)
    ∷ (load_checks tasks locks uses ++ event_check (length events) (λ k. number_fault (at events k)) ∷ [])

-- then 23 (place 0): a buffer of so much room is shorter than the book
unfoldable pub write_checks : (tasks locks uses events : List ℕ) → ℕ → List Check
write_checks tasks locks uses events room =
    whole_checks tasks locks uses events
    ++ (record { refusal = ShortBuffer; first = 0; count = 1; fault = λ _. ltb room (length (book_of tasks locks uses events)) }) ∷ []

-- the verdict, the book's length and the bytes of the buffer
pub record Wrote : Type 0 where
  pub verdict : Verdict
  pub length : ℕ
  pub bytes : List ℕ

-- a refusal leaves the buffer as it is, and answers the length 0; else the book stands at its start, and the bytes after the book stay
unfoldable pub wrote_as : Verdict → List ℕ → List ℕ → Wrote
wrote_as (Ok _) b buffer = record { verdict = Ok tt; length = length b; bytes = b ++ drop (length b) buffer }
wrote_as (Err f) b buffer = record { verdict = Err f; length = 0; bytes = buffer }

unfoldable pub write_of : (tasks locks uses events : List ℕ) → List ℕ → Wrote
write_of tasks locks uses events buffer =
    wrote_as (first_fault (write_checks tasks locks uses events (length buffer))) (book_of tasks locks uses events) buffer

-- what the writer answers, the book's length or what was refused, and the buffer as it leaves it
unfoldable pub wrote_with : Result ℕ Fault → List ℕ → Wrote
wrote_with (Ok n) buffer = record { verdict = Ok tt; length = n; bytes = buffer }
wrote_with (Err f) buffer = record { verdict = Err f; length = 0; bytes = buffer }
