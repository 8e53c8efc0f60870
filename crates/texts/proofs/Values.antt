-- Laws of a number in decimal, as std's iterators read one. Assumes nothing.
use mathlib.Core.Path.{◌≡◌, refl, sym, ◌∙◌}
use mathlib.Core.Bool.{Bool, true, false}
use mathlib.Core.List.{List, [], ◌∷◌}
use Prim.Native.Nat.{ℕ, ◌+◌, ◌*◌, ◌-◌, ◌≤◌, ◌<◌, min}
use native.Mathlib.Omega.{arith}
use lib.Dec.{eqb, ltb, leb}
use lib.ListN.{length}
use borrow.Author.Tests.{lt-ltb, le-ltb, ltb-true, ltb-false}
use Rattle.std.specs.Char.{is_ascii_digit}
use Rattle.std.specs.List.{fold, list_all}
use Rattle.std.specs.Prelude.{Ok, Err, if◌then◌else◌}
use Rattle.std.proofs.lemmas.Bool.Decides.{nat_tests}
use Rattle.rules.proofs.Numbers.Choice.{if_true, if_false, by_test, untrue}
use Rattle.texts.specs.Number.{too_large, is_digit, digital, grown, value_of, number_of}
use Rattle.texts.specs.declared.number.Mistake.TheVariants.{Missing, NoNumber, TooLarge}

-- ---- as std's iterators have it

digit_is : (c : ℕ) → is_digit c ≡ is_ascii_digit c
unfolding is_digit
digit_is c = by_test (ltb c 48)
    (λ t. let l : c < 48 = ltb-true c 48 t in if_true (ltb c 48) false (leb c 57) t ∙ grind (arith, nat_tests))
    (λ t. let l : 48 ≤ c = ltb-false c 48 t in if_false (ltb c 48) false (leb c 57) t ∙ grind (arith, nat_tests))

pub digital_is : (word : List ℕ) → digital word ≡ list_all is_ascii_digit word
unfolding digital
digital_is [] = refl
digital_is (c ∷ cs) = rw (digit_is c, digital_is cs)

pub value_is : (v : ℕ) (word : List ℕ) → value_of v word ≡ fold grown v word
unfolding value_of
value_is v [] = refl
value_is v (c ∷ cs) = value_is (grown v c) cs

-- ---- the number

pub grown_low : (v c : ℕ) → c < 48 → v ≡ grown v c
unfolding grown
grown_low v c l = sym (if_true (ltb c 48) v _ (lt-ltb c 48 l))

pub grown_by : (v c : ℕ) → 48 ≤ c → grown v c ≡ min (v * 10 + (c - 48)) too_large
unfolding grown
grown_by v c l = if_false (ltb c 48) v _ (le-ltb c 48 l)

-- ---- and how large it is

-- a number that was read is at most what it may be
pub number_within : (most : ℕ) (word : List ℕ) (v : ℕ) → number_of most word ≡ Ok v → v ≤ most
unfolding number_of
number_within most word v e = go (eqb (length word) 0) (digital word) (ltb most (value_of 0 word)) refl e
  where
    go : (a b t : Bool) → ltb most (value_of 0 word) ≡ t
        → (if a then Err Missing else if b then (if t then Err TooLarge else Ok (value_of 0 word)) else Err NoNumber)
        ≡ Ok v
        → v ≤ most
    go true b t f h = untrue cc
    go false true true f h = untrue cc
    go false true false f h = let e : value_of 0 word ≡ v = cc in omega (arith, ltb-false most (value_of 0 word) f)
    go false false t f h = untrue cc
