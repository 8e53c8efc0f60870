-- Laws of values that are stored from a place on: one run after another, what stands there then, and the bytes of a number. Assumes nothing.
use mathlib.Core.Path.{◌≡◌, refl, ◌∙◌, ap, ap₂}
use mathlib.Core.List.{List, [], ◌∷◌, ◌++◌}
use Prim.Native.Nat.{ℕ, suc, ◌+◌, ◌/◌, ◌%◌, ◌^◌, ◌≤◌, ◌<◌}
use native.Mathlib.Nat.{zero-add, suc-add}
use native.Mathlib.Numerals.{add-one}
use native.Mathlib.Omega.{arith}
use lib.ListN.{length, set, take, drop, length-set}
use lib.Seq.{sets, sets-eq}
use Rattle.std.specs.Int.{w16, w32, to_le_bytes}
use Rattle.rules.specs.Numbers.Place.{at, stored}
use Rattle.rules.specs.Books.Bytes.{two, four}

stored_sets : (xs : List ℕ) (i : ℕ) (vs : List ℕ) → stored xs i vs ≡ sets xs i vs
unfolding stored
stored_sets xs i [] = refl
stored_sets xs i (v ∷ vs) = stored_sets (set xs i v) (suc i) vs

pub length_stored : (xs : List ℕ) (i : ℕ) (vs : List ℕ) → length (stored xs i vs) ≡ length xs
unfolding stored
length_stored xs i [] = refl
length_stored xs i (v ∷ vs) = length_stored (set xs i v) (suc i) vs ∙ length-set xs i v

-- one run after another
pub stored_on : (xs : List ℕ) (i j : ℕ) (us vs : List ℕ) → j ≡ i + length us → stored (stored xs i us) j vs ≡ stored xs i (us ++ vs)
unfolding stored
stored_on xs i j [] vs e = ap (λ k. stored xs k vs) (omega (arith, e))
stored_on xs i j (u ∷ us) vs e = stored_on (set xs i u) (suc i) j us vs (omega (arith, e))

-- what fits stands there whole, between what stood before and after it
pub stored_whole : (xs : List ℕ) (i : ℕ) (vs : List ℕ) → i + length vs ≤ length xs → stored xs i vs ≡ take i xs ++ vs ++ drop (i + length vs) xs
stored_whole xs i vs h = stored_sets xs i vs ∙ sets-eq vs xs i h

pub stored_front : (xs vs : List ℕ) → length vs ≤ length xs → stored xs 0 vs ≡ vs ++ drop (length vs) xs
stored_front xs vs h = stored_whole xs 0 vs (omega arith) ∙ ap (λ k. vs ++ drop k xs) (zero-add (length vs))

-- in what follows a list
pub stored_past : (ps xs : List ℕ) (i : ℕ) (vs : List ℕ) → stored (ps ++ xs) (length ps + i) vs ≡ ps ++ stored xs i vs
unfolding stored
stored_past ps xs i [] = refl
stored_past ps xs i (v ∷ vs) =
    ap₂ (λ ys k. stored ys k vs) (past ps i v) (omega arith) ∙ stored_past ps (set xs i v) (suc i) vs
  where
    past : (ps : List ℕ) (i v : ℕ) → set (ps ++ xs) (length ps + i) v ≡ ps ++ set xs i v
    past [] i v = ap (λ k. set xs k v) (zero-add i)
    past (p ∷ ps) i v = ap (λ k. set (p ∷ (ps ++ xs)) k v) (suc-add (length ps) i) ∙ ap (λ ys. p ∷ ys) (past ps i v)

-- ---- the bytes of a number

pub word_stored : (out : List ℕ) (i w : ℕ) → set (set out i (w % 256)) (i + 1) (w / 256) ≡ stored out i (two w)
unfolding stored
word_stored out i w = ap (λ k. set (set out i (w % 256)) k (w / 256)) (add-one i)

pub long_stored : (out : List ℕ) (i w : ℕ)
    → set (set (set (set out i (w % 256)) (i + 1) (w / 256 % 256)) (i + 2) (w / 65536 % 256)) (i + 3) (w / 16777216) ≡ stored out i (four w)
unfolding stored
long_stored out i w =
    let a : i + 1 ≡ suc i = add-one i in
    let b : i + 2 ≡ suc (suc i) = omega arith in
    let c : i + 3 ≡ suc (suc (suc i)) = omega arith in
    rw (a, b, c)

-- and as std gives its bytes
module _ (out bytes : List ℕ) (i w : ℕ) where
  pub two_written : w < 2 ^ 16 → bytes ≡ to_le_bytes w16 w → set (set out i (at bytes 0)) (i + 1) (at bytes 1) ≡ stored out i (two w)
  two_written h e =
      let high : w / 256 % 256 ≡ w / 256 = omega (arith, h) in
      rw e (ap (λ v. set (set out i (w % 256)) (i + 1) v) high) ∙ word_stored out i w

  pub four_written : w < 2 ^ 32 → bytes ≡ to_le_bytes w32 w
      → set (set (set (set out i (at bytes 0)) (i + 1) (at bytes 1)) (i + 2) (at bytes 2)) (i + 3) (at bytes 3) ≡ stored out i (four w)
  four_written h e =
      let high : w / 16777216 % 256 ≡ w / 16777216 = omega (arith, h) in
      rw e (ap (λ v. set (set (set (set out i (w % 256)) (i + 1) (w / 256 % 256)) (i + 2) (w / 65536 % 256)) (i + 3) v) high) ∙ long_stored out i w

-- the bytes after the first are within the list
pub second_in : (out : List ℕ) (i x : ℕ) → i + 3 < length out → i + 1 < length (set out i x)
second_in out i x h = omega (arith, length-set out i x)

pub third_in : (out : List ℕ) (i x y : ℕ) → i + 3 < length out → i + 2 < length (set (set out i x) (i + 1) y)
third_in out i x y h = omega (arith, length-set (set out i x) (i + 1) y, length-set out i x)
