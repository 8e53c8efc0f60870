-- Laws of a set of locks as a number. Assumes nothing.
use mathlib.Core.Path.{◌≡◌, refl, sym, ◌∙◌, ap, ap₂, subst}
use mathlib.Core.Bool.{Bool, true, false, ◌&&◌, ◌||◌}
use Prim.Native.Nat.{ℕ, zero, suc, ◌+◌, ◌*◌, ◌/◌, ◌%◌, ◌^◌, ◌<◌, min, max}
use native.Mathlib.Nat.{div-div-eq-div-mul, zero-div, not-suc-le-zero}
use native.Mathlib.Omega.{arith}
use lib.Bits.{bit_and, bit_or, and_step, or_step}
use lib.Dec.{eqb, eqb-suc-suc, eqb-suc-zero, eqb-zero-suc}
use borrow.Author.Tests.{eqb-true, eqb-false, eq-eqb}
use Rattle.rules.specs.Numbers.Mask.{has_bit, with_bit}
use Rattle.rules.proofs.Numbers.Choice.{if_true, if_false, by_test}

-- bit 0, and the bits above it
bit_zero : (mask : ℕ) → has_bit mask 0 ≡ eqb (mask % 2) 1
unfolding has_bit
bit_zero mask = let e : mask / 2 ^ 0 ≡ mask = omega arith in ap (λ q. eqb (q % 2) 1) e

bit_suc : (mask l : ℕ) → has_bit mask (suc l) ≡ has_bit (mask / 2) l
unfolding has_bit
bit_suc mask l = let e : 2 ^ suc l ≡ 2 * 2 ^ l = omega arith in ap (λ q. eqb (q % 2) 1) (ap (λ d. mask / d) e ∙ sym (div-div-eq-div-mul mask 2 (2 ^ l)))

pub bit_none : (l : ℕ) → has_bit 0 l ≡ false
unfolding has_bit
bit_none l = ap (λ q. eqb (q % 2) 1) (zero-div (2 ^ l))

-- the same of the number with bit l
with_low : (mask l : ℕ) → with_bit mask (suc l) % 2 ≡ mask % 2
unfolding with_bit
with_low mask l = by_test (has_bit mask (suc l)) (λ e. ap (λ q. q % 2) (if_true (has_bit mask (suc l)) mask (mask + 2 ^ suc l) e))
    (λ e. ap (λ q. q % 2) (if_false (has_bit mask (suc l)) mask (mask + 2 ^ suc l) e) ∙ omega arith)

with_high : (mask l : ℕ) → with_bit mask (suc l) / 2 ≡ with_bit (mask / 2) l
unfolding with_bit
with_high mask l = by_test (has_bit mask (suc l))
    (λ e. ap (λ q. q / 2) (if_true (has_bit mask (suc l)) mask (mask + 2 ^ suc l) e)
    ∙ sym (if_true (has_bit (mask / 2) l) (mask / 2) (mask / 2 + 2 ^ l) (sym (bit_suc mask l) ∙ e)))
    (λ e. ap (λ q. q / 2) (if_false (has_bit mask (suc l)) mask (mask + 2 ^ suc l) e) ∙ omega arith
    ∙ sym (if_false (has_bit (mask / 2) l) (mask / 2) (mask / 2 + 2 ^ l) (sym (bit_suc mask l) ∙ e)))

-- with bit 0
zero_cases : (P : ℕ → Type 0) (mask : ℕ) → (mask % 2 ≡ 1 → P mask) → (mask % 2 ≡ 0 → P (mask + 1)) → P (with_bit mask 0)
unfolding with_bit
zero_cases P mask f g = by_test (has_bit mask 0)
    (λ e. subst P (sym (if_true (has_bit mask 0) mask (mask + 2 ^ 0) e)) (f (eqb-true (mask % 2) 1 (sym (bit_zero mask) ∙ e))))
    (λ e. subst P (sym (if_false (has_bit mask 0) mask (mask + 2 ^ 0) e)) (g (omega (arith, eqb-false (mask % 2) 1 (sym (bit_zero mask) ∙ e)))))

-- what is put in is in, and nothing else changes
pub with_has : (mask l v : ℕ) → has_bit (with_bit mask l) v ≡ (eqb l v || has_bit mask v)
with_has mask zero zero = zero_cases (λ w. has_bit w 0 ≡ true) mask (λ e. bit_zero mask ∙ eq-eqb (mask % 2) 1 e)
    (λ e. bit_zero (mask + 1) ∙ eq-eqb ((mask + 1) % 2) 1 (omega arith))
with_has mask zero (suc v) =
    zero_cases (λ w. has_bit w (suc v) ≡ has_bit mask (suc v)) mask (λ e. refl)
    (λ e. let h : (mask + 1) / 2 ≡ mask / 2 = omega arith in bit_suc (mask + 1) v ∙ ap (λ q. has_bit q v) h ∙ sym (bit_suc mask v)) ∙ rw (eqb-zero-suc v)
with_has mask (suc l) zero = bit_zero (with_bit mask (suc l)) ∙ ap (λ q. eqb q 1) (with_low mask l) ∙ sym (bit_zero mask) ∙ rw (eqb-suc-zero l)
with_has mask (suc l) (suc v) =
    bit_suc (with_bit mask (suc l)) v ∙ ap (λ q. has_bit q v) (with_high mask l) ∙ with_has (mask / 2) l v
    ∙ ap₂ ◌||◌ (sym (eqb-suc-suc l v)) (sym (bit_suc mask v))

-- a set of locks below m stays below 2 ^ m
pub with_below : (m mask l : ℕ) → l < m → mask < 2 ^ m → with_bit mask l < 2 ^ m
with_below zero mask l h b = absurd (not-suc-le-zero h)
with_below (suc m) mask zero h b = zero_cases (λ w. w < 2 ^ suc m) mask (λ e. b) (λ e. omega arith)
with_below (suc m) mask (suc l) h b = omega (arith, with_below m (mask / 2) l (omega arith) (omega arith), with_low mask l, with_high mask l)

-- ---- what two sets have in common, and both of them together

-- an operation op works by f on the lowest bits and by itself on the rest, and f on bits is g on truths
module _ (op f : ℕ → ℕ → ℕ) (g : Bool → Bool → Bool) (step : (a b : ℕ) → op a b ≡ op (a / 2) (b / 2) * 2 + f (a % 2) (b % 2))
    (bits : (x y : ℕ) → x < 2 → y < 2 → (f x y < 2) × (eqb (f x y) 1 ≡ g (eqb x 1) (eqb y 1))) where
  op_has : (a b l : ℕ) → has_bit (op a b) l ≡ g (has_bit a l) (has_bit b l)
  op_has a b zero =
      let (small, same) = bits (a % 2) (b % 2) (omega arith) (omega arith) in
      let low : op a b % 2 ≡ f (a % 2) (b % 2) = omega (arith, step a b) in
      bit_zero (op a b) ∙ ap (λ q. eqb q 1) low ∙ same ∙ ap₂ g (sym (bit_zero a)) (sym (bit_zero b))
  op_has a b (suc l) =
      let (small, same) = bits (a % 2) (b % 2) (omega arith) (omega arith) in
      let high : op a b / 2 ≡ op (a / 2) (b / 2) = omega (arith, step a b) in
      bit_suc (op a b) l ∙ ap (λ q. has_bit q l) high ∙ op_has (a / 2) (b / 2) l ∙ ap₂ g (sym (bit_suc a l)) (sym (bit_suc b l))

-- what holds of both bits holds of all that two numbers below 2 can be
bit_cases : (P : ℕ → ℕ → Type 0) → P 0 0 → P 0 1 → P 1 0 → P 1 1 → (x y : ℕ) → x < 2 → y < 2 → P x y
bit_cases P a b c d zero zero h k = a
bit_cases P a b c d zero (suc zero) h k = b
bit_cases P a b c d zero (suc (suc y)) h k = absurd (omega arith)
bit_cases P a b c d (suc zero) zero h k = c
bit_cases P a b c d (suc zero) (suc zero) h k = d
bit_cases P a b c d (suc zero) (suc (suc y)) h k = absurd (omega arith)
bit_cases P a b c d (suc (suc x)) y h k = absurd (omega arith)

pub and_has : (a b l : ℕ) → has_bit (bit_and a b) l ≡ (has_bit a l && has_bit b l)
and_has = op_has bit_and min ◌&&◌ and_step
    (bit_cases (λ x y. (min x y < 2) × (eqb (min x y) 1 ≡ (eqb x 1 && eqb y 1)))
    (omega arith, refl) (omega arith, refl) (omega arith, refl) (omega arith, refl))

pub or_has : (a b l : ℕ) → has_bit (bit_or a b) l ≡ (has_bit a l || has_bit b l)
or_has = op_has bit_or max ◌||◌ or_step
    (bit_cases (λ x y. (max x y < 2) × (eqb (max x y) 1 ≡ (eqb x 1 || eqb y 1)))
    (omega arith, refl) (omega arith, refl) (omega arith, refl) (omega arith, refl))
