-- The first place at which a test holds, as iterators find it. Assumes nothing.
use mathlib.Core.Path.{◌≡◌, refl, sym, ◌∙◌, ap}
use mathlib.Core.Bool.{Bool, true, false, not}
use mathlib.Core.List.{List, [], ◌∷◌}
use Prim.Native.Nat.{ℕ, zero, suc, ◌+◌, ◌≤◌, ◌<◌}
use native.Mathlib.Omega.{arith}
use lib.Dec.{ltb}
use lib.ListN.{length, get_or}
use borrow.Author.Tests.{lt-ltb, le-ltb}
use Rattle.std.proofs.Common.{Option, Some, None, cond, inl, inr, zero-add, if◌then◌else◌}
use Rattle.std.proofs.lemmas.List.FromFn.{length-range_with_len, get_or-range_with_len}
use Rattle.std.specs.List.{position, position_or_len, range_with_len}
use Rattle.rules.specs.Numbers.Place.{any, first_from}
use Rattle.rules.proofs.Numbers.Choice.{if_true, if_false, lt_or_le, untrue}
use Rattle.rules.proofs.Numbers.Place.{below, any_false, first_hit, first_before, first_none, first_is, first_same}

-- the first of the places below n, if there is one
abbrev pub first_of : (ℕ → Bool) → ℕ → Option ℕ
first_of f n = if ltb (first_from f 0 n) n then Some (first_from f 0 n) else None

shifted : (t : Bool) (i a b : ℕ) → a ≡ suc b → (if t then suc i else a) ≡ suc (if t then i else b)
shifted true i a b e = refl
shifted false i a b e = e

first_shift : (f : ℕ → Bool) (i left : ℕ) → first_from f (suc i) left ≡ suc (first_from (λ k. f (suc k)) i left)
unfolding first_from
first_shift f i zero = refl
first_shift f i (suc left) = shifted (f (suc i)) i _ _ (first_shift f (suc i) left)

counted : (t : Bool) (a b : ℕ) → a ≡ suc b → (if t then 0 else a) ≡ cond (not t) (1 + b) 0
counted true a b e = refl
counted false a b e = omega (arith, e)

chosen : (t : Bool) (i : ℕ) → cond t (Some i) None ≡ (if t then Some i else None)
chosen true i = refl
chosen false i = refl

module _ {X : Type 0} (p : X → Bool) (d : X) where
  first_in : (xs : List X) → first_from (λ k. p (get_or xs k d)) 0 (length xs) ≡ position_or_len p xs
  unfolding first_from
  first_in [] = refl
  first_in (x ∷ xs) = counted (p x) _ _ (first_shift (λ k. p (get_or (x ∷ xs) k d)) 0 (length xs) ∙ ap suc (first_in xs))

  -- what `position` finds in a list
  pub position_first : (xs : List X) → position p xs ≡ first_of (λ k. p (get_or xs k d)) (length xs)
  position_first xs = chosen _ _ ∙ ap (λ i. if ltb i (length xs) then Some i else None) (sym (first_in xs))

-- the first place of two tests that are the same at each of them
pub first_of_same : (f g : ℕ → Bool) (n : ℕ) → ((x : ℕ) → x < n → f x ≡ g x) → first_of f n ≡ first_of g n
first_of_same f g n h = ap (λ i. if ltb i n then Some i else None) (first_same f g 0 n (λ x a b. h x (omega (arith, b))))

module _ (f : ℕ → Bool) (n : ℕ) where
  some_or_none : {P : Type 0} → (first_from f 0 n < n → first_of f n ≡ Some (first_from f 0 n) → P) → (n ≤ first_from f 0 n → first_of f n ≡ None → P) → P
  some_or_none there nowhere = elim (lt_or_le (first_from f 0 n) n) [
    | inl l ↦ there l (if_true (ltb (first_from f 0 n) n) _ _ (lt-ltb (first_from f 0 n) n l))
    | inr l ↦ nowhere l (if_false (ltb (first_from f 0 n) n) _ _ (le-ltb (first_from f 0 n) n l))
  ]

  -- the place, where there is one
  pub first_there : (k : ℕ) → first_of f n ≡ Some k → (k < n) × (k ≡ first_from f 0 n)
  first_there k e = some_or_none
      (λ l h. let q : first_from f 0 n ≡ k = cc in (omega (arith, q), sym q))
      (λ l h. let z : Some k ≡ None = sym e ∙ h in cc)

  pub first_absent : first_of f n ≡ None → n ≤ first_from f 0 n
  first_absent e = some_or_none (λ l h. let z : Some (first_from f 0 n) ≡ None = sym h ∙ e in cc) (λ l h. l)

  pub none_first : any f n ≡ false → first_of f n ≡ None
  none_first e = some_or_none
      (λ l h. untrue (sym (first_hit f 0 n (omega (arith, l))) ∙ any_false f n e (first_from f 0 n) l))
      (λ l h. h)

-- the first of n places, where there is one, is the first of one more; and where there is none, the next place decides
module _ (f : ℕ → Bool) (n : ℕ) where
  pub first_more : (k : ℕ) → k < n → k ≡ first_from f 0 n → k ≡ first_from f 0 (suc n)
  first_more k l e =
      first_is f (suc n) k (omega arith) (ap f e ∙ first_hit f 0 n (omega (arith, e))) (λ j h. first_before f 0 n j (omega arith) (omega (arith, e, h)))

  module _ (none : n ≤ first_from f 0 n) where
    pub first_last : f n ≡ true → n ≡ first_from f 0 (suc n)
    first_last t = first_is f (suc n) n (omega arith) t (λ j h. first_none f 0 n (omega (arith, none)) j (omega arith) (omega (arith, h)))

    pub first_no_more : f n ≡ false → suc n ≤ first_from f 0 (suc n)
    first_no_more t = elim (lt_or_le (first_from f 0 (suc n)) (suc n)) [
      | inl l ↦ untrue (sym (first_hit f 0 (suc n) (omega (arith, l)))
          ∙ below (λ j. f j ≡ false) n (λ j h. first_none f 0 n (omega (arith, none)) j (omega arith) (omega (arith, h))) t (first_from f 0 (suc n)) l)
      | inr l ↦ l
    ]

-- what it finds in a list is the first place, and where it finds nothing there is none
module _ {X : Type 0} (p : X → Bool) (d : X) (xs : List X) where
  pub found_in : (k : ℕ) → position p xs ≡ Some k → (k < length xs) × (k ≡ first_from (λ k. p (get_or xs k d)) 0 (length xs))
  found_in k e = first_there (λ k. p (get_or xs k d)) (length xs) k (sym (position_first p d xs) ∙ e)

  pub absent_in : position p xs ≡ None → length xs ≤ first_from (λ k. p (get_or xs k d)) 0 (length xs)
  absent_in e = first_absent (λ k. p (get_or xs k d)) (length xs) (sym (position_first p d xs) ∙ e)

-- what it finds in a range of places
pub first_place : (f : ℕ → Bool) (n : ℕ) → position f (range_with_len 0 n) ≡ first_of f n
first_place f n =
    position_first f 0 (range_with_len 0 n)
    ∙ ap (λ m. first_of (λ k. f (get_or (range_with_len 0 n) k 0)) m) (length-range_with_len 0 n)
    ∙ first_of_same _ f n (λ k h. ap f (get_or-range_with_len 0 n k 0 h ∙ zero-add k))

module _ (f : ℕ → Bool) (n : ℕ) where
  pub found_below : (k : ℕ) → position f (range_with_len 0 n) ≡ Some k → (k < n) × (k ≡ first_from f 0 n)
  found_below k e = first_there f n k (sym (first_place f n) ∙ e)

  pub absent_below : position f (range_with_len 0 n) ≡ None → n ≤ first_from f 0 n
  absent_below e = first_absent f n (sym (first_place f n) ∙ e)

-- where one loop that asks them all has found none
pub none_in : (p : ℕ → Bool) (xs : List ℕ) → any (λ k. p (get_or xs k 0)) (length xs) ≡ false → None ≡ position p xs
none_in p xs e = sym (position_first p 0 xs ∙ none_first (λ k. p (get_or xs k 0)) (length xs) e)

pub none_below : (f : ℕ → Bool) (n : ℕ) → any f n ≡ false → None ≡ position f (range_with_len 0 n)
none_below f n e = sym (first_place f n ∙ none_first f n e)
