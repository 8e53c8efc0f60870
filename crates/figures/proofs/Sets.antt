-- Sets of locks, as the code has them. Assumes nothing.
use Rattle.std.proofs.Common.{◌≡◌, sym, ap, ◌∙◌, ltb, ℕ, ◌+◌, ◌*◌, ◌/◌, ◌%◌, ◌^◌, ◌<◌, ◌≤◌, bit_or, arith, if◌then◌else◌}
use Rattle.std.specs.Int.Bits.{or_add_and}
use Rattle.std.proofs.lemmas.Nat.Bits.{and_pow}
use native.Mathlib.Nat.{lt_of_lt_of_le, div-eq_of_lt, mod-eq_of_lt, one-mul}
use lib.Pow.{pow_mono, pow-lt}
use borrow.Author.Tests.{lt-ltb, le-ltb, eqb-true, eqb-false}
use Rattle.rules.specs.Numbers.Capacity.{max_locks}
use Rattle.rules.specs.Numbers.Mask.{has_bit, with_bit}
use Rattle.rules.proofs.Numbers.Choice.{if_true, if_false, by_test}

-- a number of 32 bits has no bit above them
pub bit_high : (mask l : ℕ) → mask < 2 ^ 32 → max_locks ≤ l → ltb l max_locks ≡ has_bit mask l
unfolding has_bit
bit_high mask l h g =
    let p : 2 ^ 32 ≤ 2 ^ l = pow_mono g in
    let e : mask / 2 ^ l ≡ 0 = div-eq_of_lt (lt_of_lt_of_le h p) in
    le-ltb l max_locks g ∙ rw e

-- the bit joined to the number: it is there already, or it is added
joined : (mask l : ℕ) → bit_or mask (2 ^ l) ≡ with_bit mask l
unfolding with_bit has_bit
joined mask l =
    let both : bit_or mask (2 ^ l) + mask / 2 ^ l % 2 * 2 ^ l ≡ mask + 2 ^ l =
    ap (λ k. bit_or mask (2 ^ l) + k) (sym (and_pow mask l)) ∙ or_add_and mask (2 ^ l) in
    by_test (has_bit mask l)
    (λ e. let is : mask / 2 ^ l % 2 ≡ 1 = eqb-true (mask / 2 ^ l % 2) 1 e in let b = rw is at both in
    let same : bit_or mask (2 ^ l) ≡ mask = omega arith in same ∙ sym (if_true (has_bit mask l) mask (mask + 2 ^ l) e))
    (λ e. let is : mask / 2 ^ l % 2 ≡ 0 = omega (arith, eqb-false (mask / 2 ^ l % 2) 1 e) in let b = rw is at both in
    let more : bit_or mask (2 ^ l) ≡ mask + 2 ^ l = omega arith in more ∙ sym (if_false (has_bit mask l) mask (mask + 2 ^ l) e))

module _ (mask l : ℕ) where
  pub with_in : l < max_locks → bit_or mask (1 * 2 ^ l % 2 ^ 32) ≡ (if ltb l max_locks then with_bit mask l else mask)
  with_in h =
      let p : 2 ^ l < 2 ^ 32 = pow-lt h in
      let shifted : 1 * 2 ^ l % 2 ^ 32 ≡ 2 ^ l = rw (one-mul (2 ^ l)) (mod-eq_of_lt p) in
      ap (bit_or mask) shifted ∙ joined mask l ∙ sym (if_true (ltb l max_locks) (with_bit mask l) mask (lt-ltb l max_locks h))

  pub with_none : max_locks ≤ l → mask ≡ (if ltb l max_locks then with_bit mask l else mask)
  with_none h = sym (if_false (ltb l max_locks) (with_bit mask l) mask (le-ltb l max_locks h))
