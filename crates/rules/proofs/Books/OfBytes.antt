-- The book of records that fit is a list of bytes, and the records of a book of bytes fit. Assumes nothing.
use mathlib.Core.List.{List, [], ◌∷◌, ◌++◌}
use Prim.Native.Nat.{ℕ, zero, suc, ◌+◌, ◌*◌, ◌^◌, ◌<◌}
use native.Mathlib.Omega.{arith}
use lib.ListN.{length}
use Rattle.rules.specs.Numbers.Place.{at, from}
use Rattle.rules.specs.Books.Book.{word, long, contents}
use Rattle.rules.specs.Books.Bytes.{two, four, word_bytes, long_bytes, entry_of, contents_of, bodies_of, book_of, Bytes, Fit}
use Rattle.rules.proofs.Books.ReadBack.{word_size, long_size}

-- ---- the bytes of records that fit

both_bytes : (xs ys : List ℕ) → Bytes xs → Bytes ys → Bytes (xs ++ ys)
both_bytes [] ys g h i = h i
both_bytes (x ∷ xs) ys g h zero = g 0
both_bytes (x ∷ xs) ys g h (suc i) = both_bytes xs ys (λ i. g (suc i)) h i

two_bytes : (w : ℕ) → w < 2 ^ 16 → Bytes (two w)
two_bytes w h zero = omega arith
two_bytes w h (suc zero) = omega arith
two_bytes w h (suc (suc i)) = omega arith

four_bytes : (w : ℕ) → w < 2 ^ 32 → Bytes (four w)
four_bytes w h zero = omega arith
four_bytes w h (suc zero) = omega arith
four_bytes w h (suc (suc zero)) = omega arith
four_bytes w h (suc (suc (suc zero))) = omega arith
four_bytes w h (suc (suc (suc (suc i)))) = omega arith

word_bytes_lem : (ws : List ℕ) → ((i : ℕ) → at ws i < 2 ^ 16) → Bytes (word_bytes ws)
unfolding word_bytes
word_bytes_lem [] h = λ i. omega arith
word_bytes_lem (w ∷ ws) h = both_bytes (two w) (word_bytes ws) (two_bytes w (h 0)) (word_bytes_lem ws (λ i. h (suc i)))

long_bytes_lem : (ws : List ℕ) → ((i : ℕ) → at ws i < 2 ^ 32) → Bytes (long_bytes ws)
unfolding long_bytes
long_bytes_lem [] h = λ i. omega arith
long_bytes_lem (w ∷ ws) h = both_bytes (four w) (long_bytes ws) (four_bytes w (h 0)) (long_bytes_lem ws (λ i. h (suc i)))

entry_bytes : (kind count offset : ℕ) → kind < 2 ^ 16 → count < 2 ^ 16 → offset < 2 ^ 32 → Bytes (entry_of kind count offset)
entry_bytes kind count offset a b c = both_bytes (two kind) (two count ++ four offset) (two_bytes kind a)
    (both_bytes (two count) (four offset) (two_bytes count b) (four_bytes offset c))

pub book_bytes : (tasks locks uses events : List ℕ) → Fit tasks locks uses events → Bytes (book_of tasks locks uses events)
unfolding book_of
book_bytes tasks locks uses events f =
    let locks_at : ℕ = contents + length (word_bytes tasks) in
    let uses_at : ℕ = locks_at + length (long_bytes locks) in
    let events_at : ℕ = uses_at + length (word_bytes uses) in
    let near : locks_at < 2 ^ 32 = omega (arith, word_size tasks, f.task_count) in
    let further : uses_at < 2 ^ 32 = omega (arith, word_size tasks, long_size locks, f.task_count, f.lock_count) in
    let far : events_at < 2 ^ 32 = omega (arith, word_size tasks, long_size locks, word_size uses, f.task_count, f.lock_count, f.use_count) in
    let first : List ℕ = entry_of 1 (length tasks) contents in
    let second : List ℕ = entry_of 2 (length locks) locks_at in
    let third : List ℕ = entry_of 3 (length uses) uses_at in
    let fourth : List ℕ = entry_of 4 (length events) events_at in
    both_bytes (contents_of tasks locks uses events) (bodies_of tasks locks uses events)
    (both_bytes first (second ++ (third ++ fourth)) (entry_bytes 1 (length tasks) contents (omega arith) f.task_count (omega arith))
    (both_bytes second (third ++ fourth) (entry_bytes 2 (length locks) locks_at (omega arith) f.lock_count near)
    (both_bytes third fourth (entry_bytes 3 (length uses) uses_at (omega arith) f.use_count further)
    (entry_bytes 4 (length events) events_at (omega arith) f.event_count far))))
    (both_bytes (word_bytes tasks) (long_bytes locks ++ (word_bytes uses ++ long_bytes events)) (word_bytes_lem tasks f.task_numbers)
    (both_bytes (long_bytes locks) (word_bytes uses ++ long_bytes events) (long_bytes_lem locks f.lock_numbers)
    (both_bytes (word_bytes uses) (long_bytes events) (word_bytes_lem uses f.use_numbers) (long_bytes_lem events f.event_numbers))))

-- ---- numbers that are read from bytes

module _ (b : List ℕ) (bytes : Bytes b) where
  pub word_fits : (p : ℕ) → word b p < 2 ^ 16
  word_fits p = omega (arith, bytes p, bytes (p + 1))

  long_fits : (p : ℕ) → long b p < 2 ^ 32
  long_fits p = omega (arith, word_fits p, word_fits (p + 2))

  pub words_fit : (p n k i : ℕ) → at (from (λ j. word b (p + j * 2)) k n) i < 2 ^ 16
  unfolding from
  words_fit p zero k i = omega arith
  words_fit p (suc n) k zero = word_fits (p + k * 2)
  words_fit p (suc n) k (suc i) = words_fit p n (suc k) i

  pub longs_fit : (p n k i : ℕ) → at (from (λ j. long b (p + j * 4)) k n) i < 2 ^ 32
  unfolding from
  longs_fit p zero k i = omega arith
  longs_fit p (suc n) k zero = long_fits (p + k * 4)
  longs_fit p (suc n) k (suc i) = longs_fit p n (suc k) i
