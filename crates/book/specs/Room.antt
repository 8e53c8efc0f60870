-- RULES 2.1, 6.6: records that a book may have, with room for their book, and a book that is laid part by part. Assumes nothing.
use Rattle.std.specs.Prelude.{List, [], ◌∷◌, ℕ, ◌+◌, ◌*◌, ◌≤◌, ltb, length}
use Rattle.rules.specs.Numbers.Capacity.{max_tasks, max_locks, max_uses, max_events}
use Rattle.rules.specs.Numbers.Place.{at, stored}
use Rattle.rules.specs.Numbers.Refusal.{Check}
use Rattle.rules.specs.Books.Event.{number_fault}
use Rattle.rules.specs.Books.Book.{contents, largest_book, event_check}
use Rattle.rules.specs.Books.Bytes.{entry_of, book_of}
use Rattle.rules.specs.declared.refusal.Refusal.TheVariants.{ShortBuffer}

-- as many tasks, locks, uses and events as a book may have
pub record Few (n m u k : ℕ) : Type 0 where
  pub tasks : n ≤ max_tasks
  pub locks : m ≤ max_locks
  pub uses : u ≤ max_uses
  pub events : k ≤ max_events

pub record Room (tasks locks uses events out : List ℕ) : Type 0 where
  pub few : Few (length tasks) (length locks) (length uses) (length events)
  pub fits : length (book_of tasks locks uses events) ≤ length out

-- this body of n records, from a place on, and the contents, where its entry goes
pub record PartRoom (out : List ℕ) (from n : ℕ) (bytes : List ℕ) : Type 0 where
  pub front : contents ≤ length out
  pub body : from + length bytes ≤ length out
  pub count : n ≤ max_events
  pub offset : from ≤ largest_book

-- both laid
abbrev pub with_part : List ℕ → ℕ → ℕ → ℕ → List ℕ → List ℕ
with_part out e from n body = stored (stored out from body) (e * 8) (entry_of (e + 1) n from)

-- 8 and 23, of these events and a book of this size, with so much room for it
abbrev pub last_checks : List ℕ → ℕ → ℕ → List Check
last_checks events size room =
    event_check (length events) (λ k. number_fault (at events k))
    ∷ (record { refusal = ShortBuffer; first = 0; count = 1; fault = λ _. ltb room size })
    ∷ []
