-- The ways through a row. Assumes nothing.
use mathlib.Core.Path.{◌≡◌, refl, sym, ◌∙◌, ap}
use mathlib.Core.Bool.{true, false, ◌||◌}
use Prim.Native.Nat.{ℕ, zero, suc, ◌+◌, ◌-◌, ◌*◌, ◌%◌, ◌^◌, ◌<◌, ◌≤◌}
use native.Mathlib.Nat.{mod-eq_of_lt}
use native.Mathlib.Omega.{arith}
use lib.Dec.{eqb}
use borrow.Author.Tests.{eq-eqb, ne_eqb}
use Rattle.std.specs.Prelude.{bit_or}
use Rattle.std.specs.Int.Bits.{and_shifted}
use Rattle.std.proofs.lemmas.Nat.{or_disjoint}
use Rattle.rules.specs.Numbers.Row.{newest, under, pushed, has}
use Rattle.rules.proofs.Numbers.Row.{has_none, has_suc}

-- a number above 0 is one more than the number before it
pub one_more : (k : ℕ) → (k ≡ 0 → ⊥) → k ≡ suc (k - 1)
one_more zero n = absurd (n refl)
one_more (suc j) n = ap suc (omega arith)

-- a row of fewer than eight loses nothing
pub push_fits : (row x v : ℕ) → row < 256 ^ 7 → v ≡ pushed (row % 256 ^ 7) x → v ≡ pushed row x
push_fits row x v h e = e ∙ ap (λ r. pushed r x) (mod-eq_of_lt h)

-- a row moved up by a byte, and the new one joined to it
pub moved_up : (row x : ℕ) → x < 256 → bit_or (row * 256 % 2 ^ 64) x ≡ pushed (row % 256 ^ 7) x
moved_up row x h =
    let e : row * 256 % 2 ^ 64 ≡ row % 256 ^ 7 * 2 ^ 8 = omega arith in
    rw e (or_disjoint (row % 256 ^ 7 * 2 ^ 8) x (and_shifted (row % 256 ^ 7) 8 x h))

-- ---- a loop that looks for l, and is past i of the k newest: what is left of the row gives the same answer

module _ (row k l rest i x : ℕ) (same : has rest (k - i) l ≡ has row k l) where
  one_left : i < k → (eqb (newest rest) l || has (under rest) (k - (i + 1)) l) ≡ has row k l
  one_left h =
      let e : suc (k - (i + 1)) ≡ k - i = omega arith in
      sym (has_suc rest (k - (i + 1)) l) ∙ ap (λ m. has rest m l) e ∙ same

  pub has_hit : i < k → x ≡ newest rest → x ≡ l → true ≡ has row k l
  has_hit h e q = ap (λ b. b || has (under rest) (k - (i + 1)) l) (sym (eq-eqb (newest rest) l (sym e ∙ q))) ∙ one_left h

  pub has_miss : (u : ℕ) → i < k → x ≡ newest rest → (x ≡ l → ⊥) → u ≡ under rest → has u (k - (i + 1)) l ≡ has row k l
  has_miss u h e q d =
      ap (λ v. has v (k - (i + 1)) l) d
      ∙ ap (λ b. b || has (under rest) (k - (i + 1)) l) (sym (ne_eqb (newest rest) l (λ p. q (e ∙ p)))) ∙ one_left h

  pub has_ends : k ≤ i → false ≡ has row k l
  has_ends h = let e : 0 ≡ k - i = omega arith in sym (has_none rest l) ∙ ap (λ m. has rest m l) e ∙ same
