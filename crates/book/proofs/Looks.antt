-- The ways through the code that looks into a book, and that an accepted book's records stand there. Assumes nothing.
use mathlib.Core.Path.{◌≡◌, refl, sym, ◌∙◌, ap}
use mathlib.Core.Bool.{Bool, true, false}
use mathlib.Core.List.{List}
use Prim.Native.Nat.{ℕ, suc, ◌+◌, ◌*◌, ◌-◌, ◌/◌, ◌≤◌, ◌<◌}
use native.Mathlib.Omega.{arith}
use Rattle.std.proofs.Common.{Some, None, if◌then◌else◌}
use Rattle.std.proofs.Math.Nat.{suc-mul, mul-le-mul_right, div-mul-le_self, div-lt_iff_lt-mul}
use Rattle.std.specs.Option.{unwrap_or}
use lib.Dec.{leb, ltb}
use lib.ListN.{length}
use borrow.Author.Tests.{le-leb, lt-leb, le-ltb, lt-ltb}
use Rattle.rules.proofs.Numbers.Choice.{if_true, if_false, by_test}
use Rattle.rules.specs.Books.Book.{contents, word, long, kind_at, count_at, offset_at, body_at}
use Rattle.book.specs.Look.{entry_in, body_in, record_in, word_in, long_in}

-- so many records of so many bytes each lie within m bytes
within : (k m size : ℕ) → k < m / size → k * size + size ≤ m
within k m size h = let l : suc k * size ≤ m / size * size = mul-le-mul_right size h in omega (arith, l, div-mul-le_self m size, suc-mul k size)

-- record k from a place on, by how many there are
module _ {N : Type 0} (size : ℕ) (number_at : ℕ → N) (b : List ℕ) (from k : ℕ) where
  pub record_some : (v : N) → v ≡ number_at (from + k * size) → k < (length b - from) / size → Some v ≡ record_in size number_at b from k
  unfolding record_in
  record_some v e h = ap Some e ∙ sym (if_true (leb (from + k * size + size) (length b)) _ _
      (le-leb (from + k * size + size) (length b) (omega (arith, within k (length b - from) size h))))

  pub record_none : 0 < size → (length b - from) / size ≤ k → None ≡ record_in size number_at b from k
  unfolding record_in
  record_none s h =
      let l : length b - from < suc k * size = (div-lt_iff_lt-mul s).0 (omega (arith, h)) in
      sym (if_false (leb (from + k * size + size) (length b)) _ _ (lt-leb (from + k * size + size) (length b) (omega (arith, l, suc-mul k size))))

-- its number, or 0
module _ (b : List ℕ) (from k : ℕ) where
  number : (t : Bool) (v : ℕ) → unwrap_or (if t then Some v else None) 0 ≡ (if t then v else 0)
  number true v = refl
  number false v = refl

  pub word_found : unwrap_or (record_in 2 (word b) b from k) 0 ≡ word_in b from k
  unfolding record_in word_in
  word_found = number (leb (from + k * 2 + 2) (length b)) (word b (from + k * 2))

  pub long_found : unwrap_or (record_in 4 (long b) b from k) 0 ≡ long_in b from k
  unfolding record_in long_in
  long_found = number (leb (from + k * 4 + 4) (length b)) (long b (from + k * 4))

-- where the body of a part starts
pub body_some : (b : List ℕ) (e r : ℕ) → contents ≤ length b → e < 4 → r ≡ body_at b e → r ≡ body_in b e
unfolding body_in
body_some b e r l h q = q ∙ sym (if_false (ltb (length b) contents) _ _ (le-ltb (length b) contents l) ∙ if_false (ltb 3 e) _ _ (le-ltb 3 e (omega arith)))

-- an entry of a book that has contents
pub entry_some : (b : List ℕ) (e kind count offset : ℕ) → contents ≤ length b → e ≤ 3 → kind ≡ kind_at b e → count ≡ count_at b e → offset ≡ offset_at b e
    → record { kind = kind; count = count; offset = offset } ≡ entry_in b e
unfolding entry_in
entry_some b e kind count offset l h x y z =
    rw (x, y, z) (sym (if_false (ltb (length b) contents) _ _ (le-ltb (length b) contents l) ∙ if_false (ltb 3 e) _ _ (le-ltb 3 e h)))

-- there are four
pub entry_none : (b : List ℕ) (e : ℕ) → 3 < e → record { kind = 0; count = 0; offset = 0 } ≡ entry_in b e
unfolding entry_in
entry_none b e h = by_test (ltb (length b) contents)
    (λ t. sym (if_true (ltb (length b) contents) _ _ t))
    (λ t. sym (if_false (ltb (length b) contents) _ _ t ∙ if_true (ltb 3 e) _ _ (lt-ltb 3 e h)))
