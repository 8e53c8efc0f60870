-- Where each task has its open locks in its own name, the task that is named for a lock is its owner exactly where it has it open. Assumes nothing.
use mathlib.Core.Path.{◌≡◌, sym, ◌∙◌, ap, subst}
use mathlib.Core.Logic.{⊎_elim}
use mathlib.Core.Bool.{true, false}
use mathlib.Core.List.{List}
use Prim.Native.Nat.{ℕ, zero, suc, ◌-◌, ◌≤◌, ◌<◌}
use native.Mathlib.Nat.{not-suc-le-zero}
use native.Mathlib.Numerals.{add-one}
use native.Mathlib.Omega.{arith}
use lib.Dec.{eqb}
use borrow.Author.Tests.{eqb-true, eq-eqb, ne_eqb}
use Rattle.rules.specs.Numbers.Place.{at}
use Rattle.rules.specs.Numbers.Row.{under, has}
use Rattle.rules.specs.Schedulers.Figures.{Figures, holds}
use Rattle.rules.specs.Soundness.Sound.{owner_of}
use Rattle.rules.specs.Soundness.SoundTest.{own_test}
use Rattle.rules.proofs.Numbers.Choice.{if_true, if_false, by_test, untrue, not_so, lt_or_le, Each, all_so}
use Rattle.rules.proofs.Numbers.Row.{has_none, has_cases}
use Rattle.rules.proofs.Schedulers.WordsKept.{owner_none, owner_some}
use Rattle.sound.proofs.Places.{same_test}

-- each lock of a row has task x for its owner
pub own_so : (owner : List ℕ) (x row k : ℕ) → own_test owner x row k ≡ true → (l : ℕ) → has row k l ≡ true → at owner l ≡ suc x
unfolding own_test Each
own_so owner x row zero e l h = untrue (sym h ∙ has_none row l)
own_so owner x row (suc k) e l h =
    let (a, (b, _)) = all_so _ e in
    ⊎_elim (λ q. subst (λ l. at owner l ≡ suc x) q (eqb-true _ _ a ∙ add-one x)) (λ q. own_so owner x (under row) k b l q) (has_cases row k l h)

module _ (f : Figures) (l : ℕ) where
  -- of the first n tasks one has it open, and nobody else has
  owner_held : (y n : ℕ) → y < n → holds f y l ≡ true → ((x : ℕ) → x < n → holds f x l ≡ true → x ≡ y) → owner_of f n l ≡ suc y
  unfolding owner_of
  owner_held y zero q h one = absurd (not-suc-le-zero q)
  owner_held y (suc k) q h one = by_test (holds f k l)
      (λ e. if_true (holds f k l) (suc k) (owner_of f k l) e ∙ ap suc (one k (omega arith) e))
      (λ e. if_false (holds f k l) (suc k) (owner_of f k l) e
      ∙ owner_held y k (⊎_elim (λ s. s) (λ s. let z : y ≡ k = omega arith in untrue (sym h ∙ rw z e)) (lt_or_le y k)) h (λ x i. one x (omega arith)))

  -- o is named by each of the first n tasks that has it open
  module _ (n o : ℕ) (own : (x : ℕ) → x < n → holds f x l ≡ true → o ≡ suc x) where
    pub owner_nobody : o ≡ 0 → true ≡ eqb o (owner_of f n l)
    owner_nobody e = sym
        (eq-eqb o (owner_of f n l) (e ∙ sym (owner_none f l n (λ x q. not_so (holds f x l) (λ h. omega (arith, own x q h))))))

    pub owner_unknown : n < o → false ≡ eqb o (owner_of f n l)
    owner_unknown h = sym (ne_eqb o (owner_of f n l) (λ e. omega (arith, (owner_some f l n (o - 1) (omega arith)).0)))

    pub owner_asked : (o ≡ 0 → ⊥) → o ≤ n → has (at f.takes (o - 1)) (at f.depth (o - 1)) l ≡ eqb o (owner_of f n l)
    unfolding holds
    owner_asked some h = same_test (holds f (o - 1) l) (eqb o (owner_of f n l))
        (λ g. let e : owner_of f n l ≡ suc (o - 1) = owner_held (o - 1) n (omega arith) g (λ x i q. omega (arith, own x i q)) in
        eq-eqb o (owner_of f n l) (omega arith))
        (λ e. (owner_some f l n (o - 1) (omega (arith, eqb-true o (owner_of f n l) e))).1)
