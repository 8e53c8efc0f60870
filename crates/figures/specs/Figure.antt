-- What a kind of number keeps so that the bits of a table can be joined, and asked once. Assumes nothing.
use Rattle.std.specs.Prelude.{◌≡◌, Bool, true, ◌&&◌, List, [], ◌∷◌, ℕ, zero, suc, ◌/◌, eqb, bit_or, refl, ⊤}
use Rattle.std.specs.Int.Bits.{or_zero_l}
use Rattle.std.proofs.Common.{◌∙◌, ap, arith}
use lib.Arith.{bin_ind}
use lib.Bits.{or_step}
use lib.Dec.{eqb-suc-zero}
use borrow.Author.Tests.{ne_eqb, eq-eqb}
use Rattle.rules.specs.Numbers.Place.{zeros}

-- 0 is told by `eq`; two numbers joined are 0 where both are; and `zeros` is what `eq` tells of each number of a list
pub record FigureLaws {M : Type 0} (IsZero : M → Type 0) (CanJoin : M → M → Type 0) (Joins : M → M → M → Type 0) (eq : M → M → Bool)
    (zeros : List M → Bool) : Type 0 where
  pub joinable : (x y : M) → CanJoin x y
  pub joined : (x y z r : M) → IsZero z → Joins x y r → eq r z ≡ (eq x z && eq y z)
  pub zero : (z : M) → IsZero z → eq z z ≡ true
  pub none : zeros [] ≡ true
  pub more : (x z : M) (xs : List M) → IsZero z → zeros (x ∷ xs) ≡ (eq x z && zeros xs)

-- two numbers joined make 0 where both are 0
first_none : (a b : ℕ) → bit_or a b ≡ 0 → a ≡ 0
first_none = bin_ind (λ (n : ℕ). (b : ℕ) → bit_or n b ≡ 0 → n ≡ 0) (λ b e. refl)
    (λ n ih b e. omega (arith, or_step n b, ih (b / 2) (omega (arith, or_step n b))))

joined_none : (a b : ℕ) → eqb (bit_or a b) 0 ≡ (eqb a 0 && eqb b 0)
joined_none zero b = ap (λ q. eqb q 0) (or_zero_l b)
joined_none (suc a) b = ne_eqb (bit_or (suc a) b) 0 (λ e. absurd (omega (arith, first_none (suc a) b e))) ∙ rw (eqb-suc-zero a)

-- the numbers of every width
pub number_laws : FigureLaws (λ x. x ≡ 0) (λ _ _. ⊤) (λ x y r. r ≡ bit_or x y) eqb zeros
unfolding zeros
number_laws = record {
  joinable = λ x y. tt;
  joined = λ x y z r e j. rw (e, j) (joined_none x y);
  zero = λ z e. eq-eqb z z refl;
  none = refl;
  more = λ x z xs e. rw e refl;
}
