-- Laws of bytes that are cut, and of two words that are compared, as std's iterators count them. Assumes nothing.
use mathlib.Core.Path.{◌≡◌, refl, sym, ◌∙◌, ap}
use mathlib.Core.Bool.{Bool, true, false, not, cond, ◌&&◌}
use mathlib.Core.List.{List, [], ◌∷◌}
use Prim.Native.Nat.{ℕ, zero, suc, ◌+◌, ◌-◌, ◌≤◌, ◌<◌}
use native.Mathlib.Omega.{arith}
use lib.Dec.{eqb, ltb}
use lib.ListN.{length, take, drop, length-drop}
use lib.Seq.{take_all}
use borrow.Author.Tests.{eqb-true, eqb-false, ltb-false}
use Rattle.std.specs.Option.{unwrap_or}
use Rattle.std.specs.Prelude.{Some, None, reverse, if◌then◌else◌}
use Rattle.std.specs.List.{position, position_or_len, prefix_len, suffix_len, take_while}
use Rattle.std.proofs.lemmas.List.Folds.{length-prefix_len}
use Rattle.std.proofs.lemmas.List.Sums.{prefix_len-le-length, suffix_len_is}
use Rattle.std.specs.Str.{bytes_eq}
use Rattle.rules.specs.Numbers.Place.{at}
use Rattle.rules.proofs.Numbers.Choice.{if_true, if_false, by_test}
use Rattle.texts.specs.Cut.{space, until, up_to, spaces_of, without_spaces, same}

-- ---- what lies from a place on, as the code lends it

abbrev pub rest : ℕ → List ℕ → List ℕ
rest n bytes = take (length bytes - n) (drop n bytes)

pub rest_is : (n : ℕ) (bytes : List ℕ) → rest n bytes ≡ drop n bytes
rest_is n bytes = take_all (length bytes - n) (drop n bytes) (omega (arith, length-drop n bytes))

-- ---- as std's iterators count

until_is : (stop : ℕ → Bool) (bytes : List ℕ) → until stop bytes ≡ position_or_len stop bytes
unfolding until
until_is stop [] = refl
until_is stop (c ∷ cs) = go (stop c) (until_is stop cs)
  where
    go : (t : Bool) → until stop cs ≡ position_or_len stop cs → (if t then 0 else suc (until stop cs)) ≡ cond (not t) (1 + position_or_len stop cs) 0
    go true h = refl
    go false h = omega (arith, h)

until_not : (p : ℕ → Bool) (bytes : List ℕ) → until (λ c. not (p c)) bytes ≡ prefix_len p bytes
unfolding until
until_not p [] = refl
until_not p (c ∷ cs) = go (p c) (until_not p cs)
  where
    go : (t : Bool) → until (λ c. not (p c)) cs ≡ prefix_len p cs → (if not t then 0 else suc (until (λ c. not (p c)) cs)) ≡ cond t (1 + prefix_len p cs) 0
    go true h = omega (arith, h)
    go false h = refl

pub spaces_is : (bytes : List ℕ) → spaces_of bytes ≡ length (take_while (λ c. eqb c space) bytes)
unfolding spaces_of
spaces_is bytes = until_not (λ c. eqb c space) bytes ∙ sym (length-prefix_len (λ c. eqb c space) bytes)

found_or : (p : ℕ → Bool) (bytes : List ℕ) → position_or_len p bytes ≡ unwrap_or (position p bytes) (length bytes)
found_or p bytes = sym (by_test (ltb (position_or_len p bytes) (length bytes))
    (λ t. ap (λ b. unwrap_or (cond b (Some (position_or_len p bytes)) None) (length bytes)) t)
    (λ t. ap (λ b. unwrap_or (cond b (Some (position_or_len p bytes)) None) (length bytes)) t
    ∙ omega (arith, ltb-false (position_or_len p bytes) (length bytes) t, prefix_len-le-length (λ x. not (p x)) bytes)))

-- the place of the first, or the length
pub up_to_is : (x : ℕ) (bytes : List ℕ) → up_to x bytes ≡ unwrap_or (position (λ c. eqb c x) bytes) (length bytes)
unfolding up_to
up_to_is x bytes = until_is (λ c. eqb c x) bytes ∙ found_or (λ c. eqb c x) bytes

-- from there on all are spaces, and the one before is none
spaces_after : (bytes : List ℕ) (k : ℕ) → without_spaces bytes ≤ k → k < length bytes → eqb (at bytes k) space ≡ true
unfolding without_spaces
spaces_after [] k l h = absurd (omega arith)
spaces_after (c ∷ cs) zero l h = go (eqb (without_spaces cs) 0) (eqb c space) l
  where
    go : (s t : Bool) → (if s then (if t then 0 else 1) else suc (without_spaces cs)) ≤ 0 → t ≡ true
    go true true l = refl
    go true false l = absurd (omega arith)
    go false t l = absurd (omega arith)
spaces_after (c ∷ cs) (suc k) l h = spaces_after cs k (go (eqb (without_spaces cs) 0) refl l) (omega arith)
  where
    go : (s : Bool) → eqb (without_spaces cs) 0 ≡ s → (if s then (if eqb c space then 0 else 1) else suc (without_spaces cs)) ≤ suc k → without_spaces cs ≤ k
    go true e l = omega (arith, eqb-true (without_spaces cs) 0 e)
    go false e l = omega arith

none_before : (bytes : List ℕ) → 0 < without_spaces bytes → eqb (at bytes (without_spaces bytes - 1)) space ≡ false
unfolding without_spaces
none_before [] l = absurd (omega arith)
none_before (c ∷ cs) l = by_test (eqb (without_spaces cs) 0)
    (λ s. by_test (eqb c space)
    (λ t. let e : without_spaces (c ∷ cs) ≡ 0 = if_true (eqb (without_spaces cs) 0) _ _ s ∙ if_true (eqb c space) 0 1 t in absurd (omega arith))
    (λ t. let e : without_spaces (c ∷ cs) ≡ 1 = if_true (eqb (without_spaces cs) 0) _ _ s ∙ if_false (eqb c space) 0 1 t in ap (λ n. eqb (at (c ∷ cs) (n - 1)) space) e ∙ t))
    (λ s. let e : without_spaces (c ∷ cs) ≡ suc (without_spaces cs) = if_false (eqb (without_spaces cs) 0) _ _ s in
    let n : (without_spaces cs ≡ 0 → ⊥) = eqb-false (without_spaces cs) 0 s in
    let p : 0 < without_spaces cs = omega (arith, n) in
    let k : suc (without_spaces cs) - 1 ≡ suc (without_spaces cs - 1) = omega (arith, p) in
    ap (λ n. eqb (at (c ∷ cs) (n - 1)) space) e ∙ ap (λ n. eqb (at (c ∷ cs) n) space) k ∙ none_before cs p)

bare_within : (bytes : List ℕ) → without_spaces bytes ≤ length bytes
unfolding without_spaces
bare_within [] = omega arith
bare_within (c ∷ cs) = go (eqb (without_spaces cs) 0) (eqb c space) (bare_within cs)
  where
    go : (s t : Bool) → without_spaces cs ≤ length cs → (if s then (if t then 0 else 1) else suc (without_spaces cs)) ≤ length (c ∷ cs)
    go true true h = omega arith
    go true false h = omega arith
    go false t h = omega (arith, h)

pub bare_is : (bytes : List ℕ) → without_spaces bytes ≡ length bytes - length (take_while (λ c. eqb c space) (reverse bytes))
bare_is bytes =
    let e : suffix_len (λ c. eqb c space) bytes ≡ length bytes - without_spaces bytes =
    suffix_len_is (λ c. eqb c space) bytes (without_spaces bytes) 0 (bare_within bytes) (spaces_after bytes) (none_before bytes) in
    omega (arith, e, bare_within bytes, length-prefix_len (λ c. eqb c space) (reverse bytes))

pub same_is : (xs ys : List ℕ) → same xs ys ≡ bytes_eq xs ys
unfolding same
same_is [] [] = refl
same_is [] (y ∷ ys) = refl
same_is (x ∷ xs) [] = refl
same_is (x ∷ xs) (y ∷ ys) = ap (λ t. eqb x y && t) (same_is xs ys)
