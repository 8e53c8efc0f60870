-- Every table has a book with its records: what it answers is what the table gives. Assumes nothing.
use mathlib.Core.Path.{◌≡◌, refl, sym, ◌∙◌, ap, ap₂}
use mathlib.Core.List.{List, [], ◌∷◌}
use Prim.Native.Nat.{ℕ, zero, suc, ◌*◌, ◌^◌, ◌<◌}
use native.Mathlib.Omega.{arith}
use lib.ListN.{length, get_or, length-map}
use borrow.Author.Tests.{le-ltb}
use Rattle.rules.specs.Numbers.Place.{at}
use Rattle.rules.specs.Books.Plan.{most, count_fault}
use Rattle.rules.specs.Books.Load.{load_of}
use Rattle.rules.specs.Books.Book.{count_at, locks_of, uses_of, event_checks, checked_of}
use Rattle.rules.specs.Books.Bytes.{Bytes}
use Rattle.rules.proofs.Numbers.Checks.{check_none, clean_passes}
use Rattle.rules.proofs.Books.ReadBack.{book_size, counts_back, layout_right, tasks_back, locks_back, uses_back}
use Rattle.rules.proofs.Books.OfBytes.{book_bytes}
use Rattle.device.specs.Table.{word_of, numbers_of}
use Rattle.device.specs.BookForm.{answer_of, OnlyPlan, table_book}
use Rattle.device.specs.declared.table.TaskRecord.{TaskRecord}
use Rattle.device.proofs.Kept.{no_record}
use Rattle.device.proofs.SameAsBook.{same_numbers, same_as_book}

module _ (ts : List TaskRecord) (locks uses : List ℕ) where
  abbrev b : List ℕ
  b = table_book ts locks uses

  no_events : count_at b 3 ≡ 0
  no_events = (counts_back (numbers_of ts) locks uses []).3

  -- nothing but the plan can be refused in it
  only_plan : OnlyPlan b 0
  unfolding count_fault most event_checks
  only_plan = record {
    whole = omega (arith, book_size (numbers_of ts) locks uses []);
    layout = layout_right (numbers_of ts) locks uses [];
    events = rw no_events refl;
    records = clean_passes _ _ (λ k h. absurd (omega (arith, h, no_events)))
        ∙ clean_passes _ _ (λ i h. le-ltb 0 (count_at b 3 * 4) (omega (arith, no_events))) ∙ check_none;
  }

  -- RULES 6.4, for every table, all locks and all uses
  pub table_as_book : load_of (numbers_of ts) locks uses ≡ answer_of (checked_of b 0)
  table_as_book = sym (same_as_book b 0 only_plan ∙ ap (λ ws. load_of ws (locks_of b) (uses_of b)) (same_numbers b ∙ tasks_back (numbers_of ts) locks uses [])
      ∙ ap₂ (load_of (numbers_of ts)) (locks_back (numbers_of ts) locks uses []) (uses_back (numbers_of ts) locks uses []))

-- a table's numbers fit two bytes
numbers_fit : (ts : List TaskRecord) → ((i : ℕ) → ((get_or ts i no_record).base < 2 ^ 8) × ((get_or ts i no_record).maximum < 2 ^ 8))
    → (i : ℕ) → at (numbers_of ts) i < 2 ^ 16
numbers_fit [] h i = omega arith
numbers_fit (t ∷ ts) h zero = omega (arith, (h 0).0, (h 0).1)
numbers_fit (t ∷ ts) h (suc i) = numbers_fit ts (λ i. h (suc i)) i

-- so the book is of bytes, where two bytes hold each count
pub table_bytes : (ts : List TaskRecord) (locks uses : List ℕ) → ((i : ℕ) → ((get_or ts i no_record).base < 2 ^ 8) × ((get_or ts i no_record).maximum < 2 ^ 8))
    → ((i : ℕ) → at locks i < 2 ^ 32) → ((i : ℕ) → at uses i < 2 ^ 16) → length ts < 2 ^ 16 → length locks < 2 ^ 16 → length uses < 2 ^ 16
    → Bytes (table_book ts locks uses)
table_bytes ts locks uses t l u n m k = book_bytes (numbers_of ts) locks uses [] (record {
  task_numbers = numbers_fit ts t;
  lock_numbers = l;
  use_numbers = u;
  event_numbers = λ i. omega arith;
  task_count = omega (arith, n, length-map ts word_of);
  lock_count = m;
  use_count = k;
  event_count = omega arith;
})
