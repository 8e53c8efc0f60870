-- Laws of a number in decimal. Assumes nothing.
use Rattle.std.specs.Prelude.{if◌then◌else◌}
use mathlib.Core.Path.{◌≡◌, sym, ◌∙◌, ap}
use mathlib.Core.List.{[], ◌∷◌, ◌++◌}
use mathlib.Core.Logic.{⊎_elim}
use Prim.Native.Nat.{ℕ, zero, suc, ◌/◌, ◌%◌, ◌^◌, ◌≤◌, ◌<◌}
use native.Mathlib.Nat.{not-suc-le-zero}
use native.Mathlib.Omega.{arith}
use lib.Dec.{ltb}
use lib.ListN.{length, length-append}
use borrow.Author.Tests.{lt-ltb, le-ltb}
use Rattle.rules.proofs.Numbers.Choice.{if_true, if_false, lt_or_le}
use Rattle.page.specs.Decimal.{digit, digits_in, digits}

-- one digit, and more
in_one : (k n : ℕ) → n < 10 → digits_in (suc k) n ≡ digit (n % 10) ∷ []
unfolding digits_in
in_one k n l = ap (λ f. f ++ digit (n % 10) ∷ []) (if_true (ltb n 10) [] (digits_in k (n / 10)) (lt-ltb n 10 l))

in_more : (k n : ℕ) → 10 ≤ n → digits_in (suc k) n ≡ digits_in k (n / 10) ++ digit (n % 10) ∷ []
unfolding digits_in
in_more k n l = ap (λ f. f ++ digit (n % 10) ∷ []) (if_false (ltb n 10) [] (digits_in k (n / 10)) (le-ltb n 10 l))

-- a bound above n is enough
in_enough : (k m n : ℕ) → n < k → n < m → digits_in k n ≡ digits_in m n
in_enough zero m n h g = absurd (not-suc-le-zero h)
in_enough (suc k) zero n h g = absurd (not-suc-le-zero g)
in_enough (suc k) (suc m) n h g = ⊎_elim
    (λ (l : n < 10). in_one k n l ∙ sym (in_one m n l))
    (λ (l : 10 ≤ n). in_more k n l ∙ ap (λ f. f ++ digit (n % 10) ∷ []) (in_enough k m (n / 10) (omega arith) (omega arith)) ∙ sym (in_more m n l))
    (lt_or_le n 10)

pub digits_one : (n : ℕ) → n < 10 → digits n ≡ digit (n % 10) ∷ []
unfolding digits
digits_one n l = in_one n n l

pub digits_more : (n : ℕ) → 10 ≤ n → digits n ≡ digits (n / 10) ++ digit (n % 10) ∷ []
unfolding digits
digits_more n l = in_more n n l ∙ ap (λ f. f ++ digit (n % 10) ∷ []) (in_enough n (suc (n / 10)) (n / 10) (omega arith) (omega arith))

-- ---- how many digits it has

-- a digit more than a tenth of it has
one_longer : (k n m : ℕ) → (10 ≤ n → length (digits_in k (n / 10)) ≤ m) → length (digits_in (suc k) n) ≤ suc m
unfolding digits_in
one_longer k n m h = ⊎_elim
    (λ (l : n < 10). rw (if_true (ltb n 10) [] (digits_in k (n / 10)) (lt-ltb n 10 l)) (omega arith))
    (λ (l : 10 ≤ n). rw (if_false (ltb n 10) [] (digits_in k (n / 10)) (le-ltb n 10 l), length-append) (omega (arith, h l)))
    (lt_or_le n 10)

in_few : (k d n : ℕ) → n < 10 ^ suc d → length (digits_in k n) ≤ suc d
unfolding digits_in
in_few zero d n h = omega arith
in_few (suc k) zero n h = one_longer k n 0 (λ l. absurd (omega arith))
in_few (suc k) (suc d) n h = one_longer k n (suc d) (λ l. in_few k d (n / 10) (omega arith))

pub digits_few : (d n : ℕ) → n < 10 ^ suc d → length (digits n) ≤ suc d
unfolding digits
digits_few d n h = in_few (suc n) d n h

-- and at least one
pub digits_some : (n : ℕ) → 1 ≤ length (digits n)
unfolding digits digits_in
digits_some n = omega (arith, length-append (if ltb n 10 then [] else digits_in n (n / 10)) (digit (n % 10) ∷ []))
