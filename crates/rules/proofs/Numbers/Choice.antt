-- Laws of a choice by a test, and the sets by which a proof goes along the code's own tests. Assumes nothing.
use Rattle.std.specs.Prelude.{if◌then◌else◌}
use mathlib.Core.Path.{◌≡◌, refl, sym, ◌∙◌, ap, subst}
use mathlib.Core.Logic.{◌⊎◌, inl, inr}
use mathlib.Core.Bool.{Bool, true, false, not, ◌&&◌, ◌||◌}
use mathlib.Core.List.{List, [], ◌∷◌}
use Prim.Native.Nat.{ℕ, ◌≤◌, ◌<◌}
use native.Mathlib.Decide.{ℕ_discrete, dec_lt}
use native.Mathlib.Omega.{arith}
use lib.Dec.{T}
use mir.Val.{bool_byte}
use borrow.Author.Tests.{lt-ltb, le-ltb, le-leb, lt-leb, eq-eqb, ne_eqb, not-true, not-false}
use Rattle.rules.specs.Numbers.Choice.{all_true}

-- every proof rests on this file, so the runs of RULES 18 are checked before them all: a wrong rule that they show is refused there first

pub if_true : {A : Type 0} (t : Bool) (a b : A) → t ≡ true → (if t then a else b) ≡ a
if_true t a b e = rw e

pub if_false : {A : Type 0} (t : Bool) (a b : A) → t ≡ false → (if t then a else b) ≡ b
if_false t a b e = rw e

-- a test as the byte that the code makes of it
pub byte_when : (t : Bool) → bool_byte t ≡ (if t then 1 else 0)
byte_when true = refl
byte_when false = refl

-- what the code answers is what the test chooses
pub if_yes : {A : Type 0} (t : Bool) (a b r : A) → t ≡ true → r ≡ a → r ≡ (if t then a else b)
if_yes t a b r e h = h ∙ sym (if_true t a b e)

pub if_no : {A : Type 0} (t : Bool) (a b r : A) → t ≡ false → r ≡ b → r ≡ (if t then a else b)
if_no t a b r e h = h ∙ sym (if_false t a b e)

-- a proof by cases on a test
pub by_test : {P : Type 0} (t : Bool) → (t ≡ true → P) → (t ≡ false → P) → P
by_test true f g = f refl
by_test false f g = g refl

-- what holds of both holds of the one that is chosen
pub either : {A : Type 0} (P : A → Type 0) (t : Bool) (a b : A) → P a → P b → P (if t then a else b)
either P true a b x y = x
either P false a b x y = y

-- true is not false
pub untrue : {P : Type 0} → true ≡ false → P
untrue e = absurd (subst T e tt)

-- a test that never holds is false
pub not_so : (t : Bool) → (t ≡ true → ⊥) → t ≡ false
not_so true h = absurd (h refl)
not_so false h = refl

pub and_true : (a b : Bool) → (a && b) ≡ true → (a ≡ true) × (b ≡ true)
and_true true b e = (refl, e)
and_true false b e = untrue (sym e)

pub true_and : (a b : Bool) → a ≡ true → b ≡ true → (a && b) ≡ true
true_and true b e h = h
true_and false b e h = e

pub or_false : (a b : Bool) → (a || b) ≡ false → (a ≡ false) × (b ≡ false)
or_false true b e = untrue e
or_false false b e = (refl, e)

pub false_or : (a b : Bool) → a ≡ false → b ≡ false → (a || b) ≡ false
false_or true b e h = e
false_or false b e h = h

pub or_true : (a b : Bool) → (a || b) ≡ true → (a ≡ true) ⊎ (b ≡ true)
or_true true b e = inl refl
or_true false b e = inr e

-- by cases on a number: r, or another
pub at_or : (P : ℕ → Type 0) (r : ℕ) → P r → ((y : ℕ) → (y ≡ r → ⊥) → P y) → (y : ℕ) → P y
at_or P r h k y = go (ℕ_discrete y r)
  where
    go : Dec (y ≡ r) → P y
    go (yes e) = subst P (sym e) h
    go (no n) = k y n

pub lt_or_le : (m n : ℕ) → (m < n) ⊎ (n ≤ m)
lt_or_le m n = go (dec_lt m n)
  where
    go : Dec (m < n) → (m < n) ⊎ (n ≤ m)
    go (yes l) = inl l
    go (no k) = inr (omega arith)

-- the code's flag r says what the test t is
pub said_true : (r t : Bool) → r ≡ t → r ≡ true → t ≡ true
said_true r t e h = sym e ∙ h

pub said_false : (r t : Bool) → r ≡ t → r ≡ false → t ≡ false
said_false r t e h = sym e ∙ h

pub said_not_true : (r t : Bool) → r ≡ t → not r ≡ true → t ≡ false
said_not_true r t e h = sym e ∙ not-true r h

pub said_not_false : (r t : Bool) → r ≡ t → not r ≡ false → t ≡ true
said_not_false r t e h = sym e ∙ not-false r h

pub not_of_true : (t : Bool) → t ≡ true → not t ≡ false
not_of_true t e = ap not e

pub not_of_false : (t : Bool) → t ≡ false → not t ≡ true
not_of_false t e = ap not e

-- ---- tests that must all hold

unfoldable pub Each : List Bool → Type 0
Each [] = Unit {0}
Each (t ∷ ts) = (t ≡ true) × Each ts

pub all_so : (ts : List Bool) → all_true ts ≡ true → Each ts
unfolding Each all_true
all_so [] e = tt
all_so (t ∷ ts) e = by_test t
    (λ q. (q, all_so ts (sym (if_true t (all_true ts) false q) ∙ e)))
    (λ q. untrue (sym e ∙ if_false t (all_true ts) false q))

pub so_all : (ts : List Bool) → Each ts → all_true ts ≡ true
unfolding Each all_true
so_all [] h = refl
so_all (t ∷ ts) h = if_true t (all_true ts) false h.0 ∙ so_all ts h.1

-- along the code's own tests: one fails, one holds, none is left
pub all_fails : (t : Bool) (ts : List Bool) → t ≡ false → false ≡ all_true (t ∷ ts)
unfolding all_true
all_fails t ts e = sym (if_false t (all_true ts) false e)

pub all_next : (t r : Bool) (ts : List Bool) → t ≡ true → r ≡ all_true ts → r ≡ all_true (t ∷ ts)
unfolding all_true
all_next t r ts e h = h ∙ sym (if_true t (all_true ts) false e)

pub all_last : (t r : Bool) → r ≡ t → r ≡ all_true (t ∷ [])
unfolding all_true
all_last true r e = e
all_last false r e = e

pub all_done : true ≡ all_true []
unfolding all_true
all_done = refl

-- for `search`: tests of numbers and of flags that are variables; with flags that a call gave
pub ruleset tests = (lt-ltb, le-ltb, le-leb, lt-leb, eq-eqb, ne_eqb, if_true, if_false)

pub ruleset alls = (all_fails, all_next, all_last, all_done)

pub ruleset picks = (if_yes, if_no)

-- of a test's opposite
pub ruleset nots = (not_of_true, not_of_false)

pub ruleset flags = (tests, said_true, said_false, said_not_true, said_not_false)
