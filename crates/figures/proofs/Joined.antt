-- Numbers that are joined one after the other: 0 comes of it exactly where every one of them is 0. Assumes nothing.
use Rattle.std.proofs.Common.{◌≡◌, sym, ap, ◌∙◌, Bool, ◌&&◌, List, [], ◌∷◌, ◌++◌}
use mathlib.Core.Bool.{and-true, and_assoc}
use Rattle.figures.specs.Figure.{FigureLaws}

module _ {M : Type 0} {IsZero : M → Type 0} {CanJoin : M → M → Type 0} {Joins : M → M → M → Type 0} {eq : M → M → Bool} {zeros : List M → Bool}
    (laws : FigureLaws IsZero CanJoin Joins eq zeros) (z : M) (is : IsZero z) where
  one_behind : (xs : List M) (x : M) → zeros (xs ++ (x ∷ [])) ≡ (zeros xs && eq x z)
  one_behind [] x = rw (laws.more x z [] is, laws.none) (and-true (eq x z))
  one_behind (y ∷ xs) x = rw (laws.more y z (xs ++ (x ∷ [])) is, laws.more y z xs is, one_behind xs x) (sym (and_assoc (eq y z) (zeros xs) (eq x z)))

  -- before the first, and after one more
  pub joined_first : eq z z ≡ zeros []
  joined_first = laws.zero z is ∙ sym laws.none

  pub joined_more : (xs : List M) (a x b : M) → eq a z ≡ zeros xs → Joins a x b → eq b z ≡ zeros (xs ++ (x ∷ []))
  joined_more xs a x b e j = laws.joined a x z b is j ∙ ap (λ t. t && eq x z) e ∙ sym (one_behind xs x)
