-- How the reader reads a number in decimal. Assumes nothing.
use mathlib.Core.Path.{◌≡◌, ◌∙◌, ap}
use mathlib.Core.Logic.{⊎_elim}
use mathlib.Core.List.{List, [], ◌∷◌, ◌++◌, append_assoc}
use Prim.Native.Nat.{ℕ, zero, suc, ◌+◌, ◌*◌, ◌/◌, ◌%◌, ◌≤◌, ◌<◌}
use native.Mathlib.Omega.{arith}
use lib.Dec.{eqb, ltb}
use borrow.Author.Tests.{le-ltb, ne_eqb}
use Rattle.rules.proofs.Numbers.Choice.{if_false, lt_or_le}
use Rattle.page.specs.Decimal.{digits}
use Rattle.page.proofs.Numbers.{digits_one, digits_more}
use Rattle.jobs.specs.Reader.{Sign, Mode, sign, in_units, in_bracket, in_lock, step, onward, run}
use Rattle.jobs.specs.Reader.Sign.{digit}
use Rattle.jobs.specs.Reader.Mode.{units, bracket, lock}
use Rattle.jobs.specs.Reader.Move.{move}
use Rattle.jobs.proofs.Steps.{prepend_none, sign_digit}

-- ---- the digits of a number

pub one_digit : (d : ℕ) → d < 10 → digits d ≡ (48 + d) ∷ []
one_digit d l = let e : d % 10 ≡ d = omega arith in digits_one d l ∙ ap (λ x. (48 + x) ∷ []) e

-- with one digit more
pub digit_more : (v d : ℕ) → d < 10 → 1 ≤ v → digits (v * 10 + d) ≡ digits v ++ (48 + d) ∷ []
digit_more v d l p =
    let q : (v * 10 + d) / 10 ≡ v = omega arith in
    let r : (v * 10 + d) % 10 ≡ d = omega arith in
    digits_more (v * 10 + d) (omega arith) ∙ ap (λ x. digits x ++ (48 + (v * 10 + d) % 10) ∷ []) q ∙ ap (λ x. digits v ++ (48 + x) ∷ []) r

-- ---- reading

-- one byte that leads on and completes no event
pub run_on : (b : ℕ) (t : List ℕ) (m m' : Mode) (s : Sign) (ls ls' : List ℕ) → sign b ≡ s → step m s ls ≡ move m' ls' [] → run (b ∷ t) m ls ≡ run t m' ls'
unfolding run onward
run_on b t m m' s ls ls' e f =
    ap (λ x. onward (step m x ls) (b ∷ t) (λ m'' ls''. run t m'' ls'')) e ∙ ap (λ x. onward x (b ∷ t) (λ m'' ls''. run t m'' ls'')) f ∙ prepend_none (run t m' ls')

sign_of : (d : ℕ) → d < 10 → sign (48 + d) ≡ digit d
sign_of d l = sign_digit (48 + d) (omega arith) (omega arith) ∙ ap digit (omega arith)

-- a digit that leads on
digit_on : (d : ℕ) (t : List ℕ) (m m' : Mode) (ls : List ℕ) → d < 10 → step m (digit d) ls ≡ move m' ls [] → run ((48 + d) ∷ t) m ls ≡ run t m' ls
digit_on d t m m' ls l e = run_on (48 + d) t m m' (digit d) ls ls (sign_of d l) e

units_step : (w v d : ℕ) (ls : List ℕ) → v * 10 + d ≡ w → 1 ≤ w → w ≤ 65535 → step (units v) (digit d) ls ≡ move (units w) ls []
unfolding step in_units
units_step w v d ls e p l = rw e (if_false (eqb w 0) _ _ (ne_eqb w 0 (λ y. omega arith)) ∙ if_false (ltb 65535 w) _ _ (le-ltb 65535 w l))

lock_step : (w v d : ℕ) (ls : List ℕ) → v * 10 + d ≡ w → 1 ≤ v → w ≤ 31 → step (lock v) (digit d) ls ≡ move (lock w) ls []
unfolding step in_lock
lock_step w v d ls e p l = rw e (if_false (eqb v 0) _ _ (ne_eqb v 0 (λ y. omega arith)) ∙ if_false (ltb 31 w) _ _ (le-ltb 31 w l))

first_step : (d w : ℕ) (ls : List ℕ) → d ≡ w → step bracket (digit d) ls ≡ move (lock w) ls []
unfolding step in_bracket
first_step d w ls e = ap (λ x. move (lock x) ls []) e

-- the digits of n are those of a tenth of it, and one more
module _ (start : Mode) (at : ℕ → Mode) (ls : List ℕ) (least most : ℕ)
    (first : (n : ℕ) → least ≤ n → n ≤ most → n < 10 → step start (digit n) ls ≡ move (at n) ls [])
    (next : (n v d : ℕ) → v * 10 + d ≡ n → 1 ≤ v → n ≤ most → step (at v) (digit d) ls ≡ move (at n) ls []) (small : least ≤ 1) where
  one : (n : ℕ) (t : List ℕ) → least ≤ n → n ≤ most → n < 10 → run (digits n ++ t) start ls ≡ run t (at n) ls
  one n t p l h = ap (λ x. run (x ++ t) start ls) (one_digit n h) ∙ digit_on n t start (at n) ls h (first n p l h)

  number_read : (k n : ℕ) (t : List ℕ) → n ≤ k → least ≤ n → n ≤ most → run (digits n ++ t) start ls ≡ run t (at n) ls
  number_read zero n t f p l = one n t p l (omega arith)
  number_read (suc k) n t f p l = ⊎_elim
      (λ (h : n < 10). one n t p l h)
      (λ (h : 10 ≤ n).
      ap (λ x. run x start ls) (ap (λ x. x ++ t) (digits_more n h) ∙ append_assoc (digits (n / 10)) ((48 + n % 10) ∷ []) t)
      ∙ number_read k (n / 10) ((48 + n % 10) ∷ t) (omega arith) (omega arith) (omega arith)
      ∙ digit_on (n % 10) t (at (n / 10)) (at n) ls (omega arith) (next n (n / 10) (n % 10) (omega arith) (omega arith) l))
      (lt_or_le n 10)

pub units_read : (n : ℕ) (t ls : List ℕ) → 1 ≤ n → n ≤ 65535 → run (digits n ++ t) (units 0) ls ≡ run t (units n) ls
units_read n t ls p l = number_read (units 0) units ls 1 65535
    (λ m a b h. units_step m 0 m ls (omega arith) a b) (λ m v d e a b. units_step m v d ls e (omega arith) b) (omega arith) n n t (omega arith) p l

pub lock_read : (n : ℕ) (t ls : List ℕ) → n ≤ 31 → run (digits n ++ t) bracket ls ≡ run t (lock n) ls
lock_read n t ls l = number_read bracket lock ls 0 31
    (λ m a b h. first_step m m ls (omega arith)) (λ m v d e a b. lock_step m v d ls e a b) (omega arith) n n t (omega arith) (omega arith) l
