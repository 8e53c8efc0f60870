-- The ways through the code over the contents: counts, bodies one after the other, and the layout. Assumes nothing.
use mathlib.Core.Path.{◌≡◌, refl, sym, ◌∙◌, ap, ap₂}
use mathlib.Core.Bool.{not, ◌||◌}
use mathlib.Core.List.{List}
use Prim.Native.Nat.{ℕ, ◌+◌, ◌*◌, ◌≤◌, ◌<◌}
use native.Mathlib.Numerals.{add-one}
use native.Mathlib.Omega.{arith}
use lib.Dec.{eqb, ltb}
use lib.ListN.{length}
use borrow.Author.Tests.{lt-ltb, eq-eqb, ne_eqb}
use Rattle.rules.specs.Books.Book.{contents, kind_at, count_at, offset_at, size_of, body_at, layout_fault}
use Rattle.rules.proofs.Numbers.Choice.{if_true}

module _ (b : List ℕ) where
  -- the bodies of the first i parts end at `place`
  pub record BodiesSoFar (i place : ℕ) : Type 0 where
    pub is : place ≡ body_at b i
    pub few : place ≤ 32 + i * 262144

  pub bodies_start : BodiesSoFar 0 contents
  unfolding body_at
  bodies_start = record { is = refl; few = omega arith }

  pub bodies_next : (i place size e : ℕ) → BodiesSoFar i place → e ≡ i → size ≡ count_at b e * size_of e → size < 262144 → BodiesSoFar (i + 1) (place + size)
  unfolding body_at
  bodies_next i place size e h q g s = record { is = rw (add-one i) (ap₂ ◌+◌ h.is (g ∙ ap (λ k. count_at b k * size_of k) q)); few = omega (arith, h.few) }

  -- 3, with the figures as the code has them
  module _ (e place : ℕ) (starts : place ≡ body_at b e) where
    pub wrong_kind : (kind k : ℕ) → e < 4 → kind ≡ kind_at b e → k ≡ e → (kind ≡ k + 1 → ⊥) → not (eqb kind (k + 1)) ≡ layout_fault b e
    unfolding layout_fault
    wrong_kind kind k h g i n =
        rw (ne_eqb kind (k + 1) n)
        (sym (if_true (ltb e 4) (not (eqb (kind_at b e) (e + 1)) || not (eqb (offset_at b e) (body_at b e))) (not (eqb (body_at b 4) (length b))) (lt-ltb e 4 h)
        ∙ rw (← g, ← i, ne_eqb kind (k + 1) n) refl))

    pub right_kind : (kind k offset : ℕ) → e < 4 → kind ≡ kind_at b e → k ≡ e → kind ≡ k + 1 → offset ≡ offset_at b e
        → not (eqb offset place) ≡ layout_fault b e
    unfolding layout_fault
    right_kind kind k offset h g i q o =
        sym (if_true (ltb e 4) (not (eqb (kind_at b e) (e + 1)) || not (eqb (offset_at b e) (body_at b e))) (not (eqb (body_at b 4) (length b))) (lt-ltb e 4 h)
        ∙ rw (← g, eq-eqb kind (e + 1) (q ∙ ap (λ v. v + 1) i), o, starts))
