-- The ways through a row of takes. Assumes nothing.
use mathlib.Core.Path.{◌≡◌, refl, sym, ◌∙◌, ap, ap₂, subst}
use mathlib.Core.Bool.{true, false}
use mathlib.Core.List.{List, [], ◌∷◌}
use Prim.Native.Nat.{ℕ, zero, suc, ◌+◌, ◌-◌, ◌%◌, ◌^◌, ◌≤◌, ◌<◌, max}
use native.Mathlib.Nat.{lt_of_lt_of_le, zero-lt-suc, pow-le-pow_right}
use native.Mathlib.Omega.{arith}
use lib.Dec.{eqb, ltb}
use borrow.Author.Tests.{eq-eqb, ne_eqb, lt-ltb, le-ltb}
use Rattle.rules.specs.Numbers.Choice.{all_true}
use Rattle.rules.specs.Numbers.Place.{at}
use Rattle.rules.specs.Numbers.Mask.{has_bit}
use Rattle.rules.specs.Numbers.Row.{newest, under, pushed, priority, saves}
use Rattle.rules.specs.Soundness.SoundTest.{row_test, own_test}
use Rattle.rules.proofs.Numbers.Row.{priority_none, priority_suc, places_pushed}
use Rattle.rules.proofs.Numbers.Choice.{all_fails, all_next, all_last}
use Rattle.figures.proofs.Rows.{push_fits}

-- a number above 0 is one more than the number before it
one_more : (k : ℕ) → (k ≡ 0 → ⊥) → k ≡ suc (k - 1)
one_more zero n = absurd (n refl)
one_more (suc j) n = ap suc (omega arith)

powers_rise : (k : ℕ) → k ≤ 7 → 256 ^ k ≤ 256 ^ 7
powers_rise k h = pow-le-pow_right (zero-lt-suc 255) h

saves_suc : (ceiling : ℕ → ℕ) (base row k : ℕ) → saves ceiling base row (suc k)
    ≡ pushed (saves ceiling base (under row) k) (priority ceiling base (under row) k)
unfolding saves
saves_suc ceiling base row k = refl

saves_room : (k below : ℕ) → (k ≡ 0 → ⊥) → k ≤ 8 → below < 256 ^ (k - 1) → below < 256 ^ 7
saves_room k below n h l = lt_of_lt_of_le l (powers_rise (k - 1) (omega arith))

-- ---- the priority of a row, and the words saved for it

module _ (ceiling : List ℕ) (base row k : ℕ) where
  pub priority_ends : k ≡ 0 → base ≡ priority (at ceiling) base row k
  priority_ends e = sym (ap (priority (at ceiling) base row) e ∙ priority_none (at ceiling) base row)

  pub priority_more : (u l below top r : ℕ) → (k ≡ 0 → ⊥) → u ≡ under row → l ≡ newest row → below ≡ priority (at ceiling) base u (k - 1)
      → top ≡ at ceiling l → r ≡ max top below → r ≡ priority (at ceiling) base row k
  priority_more u l below top r n d e h g f =
      f ∙ ap₂ max (g ∙ ap (at ceiling) e) (h ∙ ap (λ v. priority (at ceiling) base v (k - 1)) d)
      ∙ sym (ap (priority (at ceiling) base row) (one_more k n) ∙ priority_suc (at ceiling) base row (k - 1))

  pub saves_ends : k ≡ 0 → 0 ≡ saves (at ceiling) base row k
  unfolding saves
  saves_ends e = rw e

  pub saves_fits : k ≡ 0 → 0 < 256 ^ k
  saves_fits e = rw e (omega arith)

  pub saves_more : (u below word r : ℕ) → (k ≡ 0 → ⊥) → k ≤ 8 → r ≡ pushed (below % 256 ^ 7) word → below < 256 ^ (k - 1) → u ≡ under row
      → below ≡ saves (at ceiling) base u (k - 1)
      → word ≡ priority (at ceiling) base u (k - 1) → r ≡ saves (at ceiling) base row k
  saves_more u below word r n few f b d h g =
      push_fits below word r (saves_room k below n few b) f ∙ ap₂ pushed (h ∙ ap (λ v. saves (at ceiling) base v (k - 1)) d)
      (g ∙ ap (λ v. priority (at ceiling) base v (k - 1)) d)
      ∙ sym (ap (saves (at ceiling) base row) (one_more k n) ∙ saves_suc (at ceiling) base row (k - 1))

pub saves_fit : (k below word r : ℕ) → (k ≡ 0 → ⊥) → k ≤ 8 → r ≡ pushed (below % 256 ^ 7) word → below < 256 ^ (k - 1) → word < 256 → r < 256 ^ k
saves_fit k below word r n few f b w =
    subst (λ v. v < 256 ^ k) (sym (push_fits below word r (saves_room k below n few b) f))
    (subst (λ v. pushed below word < 256 ^ v) (sym (one_more k n)) (places_pushed below (k - 1) word w b))

-- ---- a loop along a row: what is left of it after i takes is tested as the whole row is

module _ (m uses row k rest i : ℕ) (same : row_test m uses rest (k - i) ≡ row_test m uses row k) (more : i < k) where
  row_parts : all_true (ltb (newest rest) m ∷ has_bit uses (newest rest) ∷ row_test m uses (under rest) (k - (i + 1)) ∷ []) ≡ row_test m uses row k
  unfolding row_test
  row_parts = let e : k - i ≡ suc (k - (i + 1)) = omega arith in rw e at same

  pub row_unknown : m ≤ newest rest → false ≡ row_test m uses row k
  row_unknown h = all_fails (ltb (newest rest) m) _ (le-ltb (newest rest) m h) ∙ row_parts

  pub row_undeclared : newest rest < m → has_bit uses (newest rest) ≡ false → false ≡ row_test m uses row k
  row_undeclared h e = all_next (ltb (newest rest) m) false _ (lt-ltb (newest rest) m h) (all_fails (has_bit uses (newest rest)) _ e) ∙ row_parts

  pub row_next : newest rest < m → has_bit uses (newest rest) ≡ true → row_test m uses (under rest) (k - (i + 1)) ≡ row_test m uses row k
  row_next h e =
      all_next (ltb (newest rest) m) _ _ (lt-ltb (newest rest) m h)
      (all_next (has_bit uses (newest rest)) _ _ e (all_last (row_test m uses (under rest) (k - (i + 1))) _ refl)) ∙ row_parts

pub row_ends : (m uses row k rest i : ℕ) → row_test m uses rest (k - i) ≡ row_test m uses row k → k ≤ i → eqb rest 0 ≡ row_test m uses row k
unfolding row_test
row_ends m uses row k rest i same h = let e : k - i ≡ 0 = omega arith in sym (ap (row_test m uses rest) e) ∙ same

module _ (owner : List ℕ) (x row k rest i : ℕ) (same : own_test owner x rest (k - i) ≡ own_test owner x row k) (more : i < k) where
  own_parts : all_true (eqb (at owner (newest rest)) (x + 1) ∷ own_test owner x (under rest) (k - (i + 1)) ∷ []) ≡ own_test owner x row k
  unfolding own_test
  own_parts = let e : k - i ≡ suc (k - (i + 1)) = omega arith in rw e at same

  pub own_other : (at owner (newest rest) ≡ x + 1 → ⊥) → false ≡ own_test owner x row k
  own_other h = all_fails (eqb (at owner (newest rest)) (x + 1)) _ (ne_eqb (at owner (newest rest)) (x + 1) h) ∙ own_parts

  pub own_next : at owner (newest rest) ≡ x + 1 → own_test owner x (under rest) (k - (i + 1)) ≡ own_test owner x row k
  own_next h =
      all_next (eqb (at owner (newest rest)) (x + 1)) _ _ (eq-eqb (at owner (newest rest)) (x + 1) h)
      (all_last (own_test owner x (under rest) (k - (i + 1))) _ refl) ∙ own_parts

pub own_ends : (owner : List ℕ) (x row k rest i : ℕ) → own_test owner x rest (k - i) ≡ own_test owner x row k → k ≤ i → true ≡ own_test owner x row k
unfolding own_test
own_ends owner x row k rest i same h = let e : k - i ≡ 0 = omega arith in sym (ap (own_test owner x rest) e) ∙ same
