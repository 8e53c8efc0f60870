-- Laws of bytes that all pass a test, and of a number's digits, as the reader of a text meets them. Assumes nothing.
use mathlib.Core.Path.{◌≡◌, refl, ◌∙◌, ap}
use mathlib.Core.Logic.{⊎_elim}
use mathlib.Core.Bool.{Bool, true, not, ◌&&◌}
use mathlib.Core.List.{List, [], ◌∷◌, ◌++◌}
use Prim.Native.Nat.{ℕ, zero, suc, ◌+◌, ◌*◌, ◌/◌, ◌%◌, ◌≤◌, ◌<◌}
use native.Mathlib.Nat.{not-suc-le-zero}
use native.Mathlib.Omega.{arith}
use lib.Dec.{eqb, ltb}
use lib.ListN.{length, length-append}
use borrow.Author.Tests.{ne_eqb, le-ltb, le-leb, not-true}
use Rattle.rules.proofs.Numbers.Choice.{if_true, if_false, lt_or_le, and_true, true_and}
use Rattle.page.specs.Decimal.{digit, digits}
use Rattle.page.proofs.Numbers.{digits_one, digits_more}
use Rattle.texts.specs.Cut.{until}
use Rattle.texts.specs.Number.{is_digit, digital, grown, value_of}

-- ---- bytes that all pass a test

unfoldable pub all : (ℕ → Bool) → List ℕ → Bool
all f [] = true
all f (c ∷ cs) = f c && all f cs

pub all_append : (f : ℕ → Bool) (xs ys : List ℕ) → all f xs ≡ true → all f ys ≡ true → all f (xs ++ ys) ≡ true
unfolding all
all_append f [] ys h g = g
all_append f (c ∷ cs) ys h g = let (a, b) = and_true (f c) (all f cs) h in true_and (f c) (all f (cs ++ ys)) a (all_append f cs ys b g)

pub all_cons : (f : ℕ → Bool) (c : ℕ) (cs : List ℕ) → f c ≡ true → all f cs ≡ true → all f (c ∷ cs) ≡ true
unfolding all
all_cons f c cs h g = true_and (f c) (all f cs) h g

-- the first byte that stops is the one after them
pub until_there : (stop : ℕ → Bool) (xs : List ℕ) (c : ℕ) (ys : List ℕ) → all (λ x. not (stop x)) xs ≡ true → stop c ≡ true → until stop (xs ++ c ∷ ys) ≡ length xs
unfolding all until
until_there stop [] c ys h e = if_true (stop c) _ _ e
until_there stop (x ∷ xs) c ys h e =
    let (a, b) = and_true (not (stop x)) (all (λ x. not (stop x)) xs) h in
    if_false (stop x) _ _ (not-true (stop x) a) ∙ ap suc (until_there stop xs c ys b e)

-- none stops
pub until_none : (stop : ℕ → Bool) (xs : List ℕ) → all (λ x. not (stop x)) xs ≡ true → until stop xs ≡ length xs
unfolding all until
until_none stop [] h = refl
until_none stop (x ∷ xs) h =
    let (a, b) = and_true (not (stop x)) (all (λ x. not (stop x)) xs) h in
    if_false (stop x) _ _ (not-true (stop x) a) ∙ ap suc (until_none stop xs b)

-- the first one stops
pub until_now : (stop : ℕ → Bool) (xs ys : List ℕ) → 0 < length xs → all stop xs ≡ true → until stop (xs ++ ys) ≡ 0
unfolding all until
until_now stop [] ys l h = absurd (not-suc-le-zero l)
until_now stop (x ∷ xs) ys l h = if_true (stop x) _ _ (and_true (stop x) (all stop xs) h).0

-- ---- the digits of a number

pub digits_some : (n : ℕ) → 0 < length (digits n)
digits_some n = ⊎_elim
    (λ (l : n < 10). rw (digits_one n l) (omega arith))
    (λ (l : 10 ≤ n). rw (digits_more n l) (omega (arith, length-append (digits (n / 10)) (digit (n % 10) ∷ []))))
    (lt_or_le n 10)

nothing : (f : ℕ → Bool) → all f [] ≡ true
unfolding all
nothing f = refl

digits_all_in : (f : ℕ → Bool) → ((d : ℕ) → d < 10 → f (48 + d) ≡ true) → (k n : ℕ) → n < k → all f (digits n) ≡ true
digits_all_in f h zero n l = absurd (not-suc-le-zero l)
digits_all_in f h (suc k) n l = ⊎_elim
    (λ (s : n < 10). rw (digits_one n s) (all_cons f (digit (n % 10)) [] (h (n % 10) (omega arith)) (nothing f)))
    (λ (s : 10 ≤ n). rw (digits_more n s) (all_append f (digits (n / 10)) (digit (n % 10) ∷ []) (digits_all_in f h k (n / 10) (omega arith))
    (all_cons f (digit (n % 10)) [] (h (n % 10) (omega arith)) (nothing f))))
    (lt_or_le n 10)

pub digits_all : (f : ℕ → Bool) → ((d : ℕ) → d < 10 → f (48 + d) ≡ true) → (n : ℕ) → all f (digits n) ≡ true
digits_all f h n = digits_all_in f h (suc n) n (omega arith)

-- a digit is no byte below 48
pub digit_not : (x d : ℕ) → x < 48 → not (eqb (48 + d) x) ≡ true
digit_not x d l = ap not (ne_eqb (48 + d) x (λ e. omega arith))

all_digital : (xs : List ℕ) → all is_digit xs ≡ true → digital xs ≡ true
unfolding all digital
all_digital [] h = refl
all_digital (c ∷ cs) h = let (a, b) = and_true (is_digit c) (all is_digit cs) h in true_and (is_digit c) (digital cs) a (all_digital cs b)

digit_is : (d : ℕ) → d < 10 → is_digit (48 + d) ≡ true
unfolding is_digit
digit_is d l = if_false (ltb (48 + d) 48) _ _ (le-ltb (48 + d) 48 (omega arith)) ∙ le-leb (48 + d) 57 (omega arith)

pub digits_digital : (n : ℕ) → digital (digits n) ≡ true
digits_digital n = all_digital (digits n) (digits_all is_digit digit_is n)

-- ---- and its value

value_append : (v : ℕ) (xs ys : List ℕ) → value_of v (xs ++ ys) ≡ value_of (value_of v xs) ys
unfolding value_of
value_append v [] ys = refl
value_append v (c ∷ cs) ys = value_append (grown v c) cs ys

value_one : (v d : ℕ) → d < 10 → v * 10 + d < 65536 → value_of v (digit d ∷ []) ≡ v * 10 + d
unfolding value_of grown
value_one v d l s = if_false (ltb (48 + d) 48) _ _ (le-ltb (48 + d) 48 (omega arith)) ∙ omega arith

value_in : (k n : ℕ) → n < k → n < 65536 → value_of 0 (digits n) ≡ n
value_in zero n l s = absurd (not-suc-le-zero l)
value_in (suc k) n l s = ⊎_elim
    (λ (h : n < 10). ap (value_of 0) (digits_one n h) ∙ value_one 0 (n % 10) (omega arith) (omega arith) ∙ omega arith)
    (λ (h : 10 ≤ n). ap (value_of 0) (digits_more n h) ∙ value_append 0 (digits (n / 10)) (digit (n % 10) ∷ [])
    ∙ ap (λ v. value_of v (digit (n % 10) ∷ [])) (value_in k (n / 10) (omega arith) (omega arith)) ∙ value_one (n / 10) (n % 10) (omega arith) (omega arith)
    ∙ omega arith)
    (lt_or_le n 10)

pub digits_value : (n : ℕ) → n < 65536 → value_of 0 (digits n) ≡ n
digits_value n s = value_in (suc n) n (omega arith) s
