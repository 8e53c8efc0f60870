-- Laws of the reader, one byte at a time. Assumes nothing.
use mathlib.Core.Path.{◌≡◌, refl, sym, ◌∙◌, ap}
use mathlib.Core.Logic.{⊎_elim}
use mathlib.Core.List.{List, [], ◌∷◌, ◌++◌, append_assoc}
use Prim.Native.Nat.{ℕ, suc, ◌+◌, ◌-◌, ◌≤◌, ◌<◌}
use native.Mathlib.Numerals.{add-one}
use native.Mathlib.Omega.{arith}
use lib.Dec.{eqb, ltb}
use lib.ListN.{length, drop, drop_of_length-le, get_or-eq_default}
use lib.Seq.{drop-cons}
use borrow.Author.Tests.{lt-ltb, le-ltb, ne_eqb, eqb-true}
use Rattle.std.specs.Prelude.{Some, None}
use Rattle.rules.specs.Numbers.Place.{at}
use Rattle.rules.specs.declared.event.Event.{Event}
use Rattle.rules.specs.declared.event.Event.TheVariants.{Acquire, Unlock, Work}
use Rattle.jobs.specs.Reader.{Mark, Sign, Mode, Answer, mark_of, sign, behind, in_units, in_lock, behind_sign, step, prepend, ends, ends_in, onward, run}
use Rattle.jobs.specs.Reader.Mark.{letter, left, right, gap, other}
use Rattle.jobs.specs.Reader.Sign.{digit, mark}
use Rattle.jobs.specs.Reader.Mode.{fresh, units, lock, after}
use Rattle.jobs.specs.Reader.Move.{stop, move}
use Rattle.jobs.specs.Reader.Answer.{refused, read}
use Rattle.jobs.specs.Said.{sign_at, digit_of}
use Rattle.rules.proofs.Numbers.Choice.{if_true, if_false, by_test, lt_or_le}

-- every proof rests on this file, so the request's example is checked before them all

-- ---- events lay before an answer

pub prepend_none : (r : Answer) → prepend [] r ≡ r
unfolding prepend
prepend_none (refused rest) = refl
prepend_none (read es) = refl

pub prepend_two : (xs ys : List Event) (r : Answer) → prepend xs (prepend ys r) ≡ prepend (xs ++ ys) r
unfolding prepend
prepend_two xs ys (refused rest) = refl
prepend_two xs ys (read es) = ap read (sym (append_assoc xs ys es))

-- ---- what a byte stands for

unfoldable pub Spells : Sign → ℕ → Type 0
Spells (digit d) b = (b ≡ 48 + d) × (d < 10)
Spells (mark letter) b = b ≡ 119
Spells (mark left) b = b ≡ 91
Spells (mark right) b = b ≡ 93
Spells (mark gap) b = b ≡ 32
Spells (mark other) b = Unit {0}

spells_mark : (b : ℕ) → Spells (mark (mark_of b)) b
unfolding Spells mark_of
spells_mark b = by_test (eqb b 119)
    (λ e. rw e (eqb-true b 119 e))
    (λ e. rw e (by_test (eqb b 91)
    (λ e. rw e (eqb-true b 91 e))
    (λ e. rw e (by_test (eqb b 93)
    (λ e. rw e (eqb-true b 93 e))
    (λ e. rw e (by_test (eqb b 32)
    (λ e. rw e (eqb-true b 32 e))
    (λ e. rw e tt)))))))

pub sign_low : (b : ℕ) → b < 48 → sign b ≡ mark (mark_of b)
unfolding sign
sign_low b l = if_true (ltb b 48) _ _ (lt-ltb b 48 l)

pub sign_high : (b : ℕ) → 57 < b → sign b ≡ mark (mark_of b)
unfolding sign
sign_high b l = if_false (ltb b 48) _ _ (le-ltb b 48 (omega arith)) ∙ if_true (ltb 57 b) _ _ (lt-ltb 57 b l)

pub sign_digit : (b : ℕ) → 48 ≤ b → b ≤ 57 → sign b ≡ digit (b - 48)
unfolding sign
sign_digit b l h = if_false (ltb b 48) _ _ (le-ltb b 48 l) ∙ if_false (ltb 57 b) _ _ (le-ltb 57 b h)

pub spells : (b : ℕ) → Spells (sign b) b
unfolding Spells
spells b = ⊎_elim
    (λ (l : b < 48). rw (sign_low b l) (spells_mark b))
    (λ (l : 48 ≤ b). ⊎_elim
    (λ (h : 57 < b). rw (sign_high b h) (spells_mark b))
    (λ (h : b ≤ 57). rw (sign_digit b l h) (omega arith, omega arith))
    (lt_or_le 57 b))
    (lt_or_le b 48)

-- ---- one byte of a text

run_at : (text : List ℕ) (a : ℕ) (m : Mode) (ls : List ℕ) → a < length text
    → run (drop a text) m ls ≡ onward (step m (sign_at text a) ls) (drop a text) (λ m' ls'. run (drop (suc a) text) m' ls')
unfolding run sign_at
run_at text a m ls l = ap (λ u. run u m ls) (drop-cons text a 0 l)
    ∙ ap (λ u. onward (step m (sign (at text a)) ls) u (λ m' ls'. run (drop (suc a) text) m' ls')) (sym (drop-cons text a 0 l))

-- it leads on
pub goes : (text : List ℕ) (a : ℕ) (m m' : Mode) (ls ls' : List ℕ) (es : List Event) → a < length text → step m (sign_at text a) ls ≡ move m' ls' es
    → run (drop a text) m ls ≡ prepend es (run (drop (a + 1) text) m' ls')
unfolding onward
goes text a m m' ls ls' es l e = rw (add-one a) (run_at text a m ls l ∙ ap (λ v. onward v (drop a text) (λ m'' ls''. run (drop (suc a) text) m'' ls'')) e)

pub goes_on_lem : (text : List ℕ) (a : ℕ) (m m' : Mode) (ls ls' : List ℕ) → a < length text → step m (sign_at text a) ls ≡ move m' ls' []
    → run (drop a text) m ls ≡ run (drop (a + 1) text) m' ls'
goes_on_lem text a m m' ls ls' l e = goes text a m m' ls ls' [] l e ∙ prepend_none (run (drop (a + 1) text) m' ls')

pub stops_at : (text : List ℕ) (a : ℕ) (m : Mode) (ls : List ℕ) → a < length text → step m (sign_at text a) ls ≡ stop → run (drop a text) m ls ≡ refused (drop a text)
unfolding onward
stops_at text a m ls l e = run_at text a m ls l ∙ ap (λ v. onward v (drop a text) (λ m'' ls''. run (drop (suc a) text) m'' ls'')) e

-- it stops, or the text ends
pub halts : (text : List ℕ) (a : ℕ) (m : Mode) (ls : List ℕ) → ends_in m ls ≡ refused [] → step m (sign_at text a) ls ≡ stop → run (drop a text) m ls ≡ refused (drop a text)
unfolding onward run
halts text a m ls h e = ⊎_elim
    (λ (l : a < length text). run_at text a m ls l ∙ ap (λ v. onward v (drop a text) (λ m'' ls''. run (drop (suc a) text) m'' ls'')) e)
    (λ (l : length text ≤ a). rw (drop_of_length-le text l) h)
    (lt_or_le a (length text))

pub inside : (text : List ℕ) (a : ℕ) → (at text a ≡ 0 → ⊥) → a < length text
inside text a h = ⊎_elim (λ (l : a < length text). l) (λ (l : length text ≤ a). absurd (h (get_or-eq_default text 0 l))) (lt_or_le a (length text))

-- ---- behind an units or a lock's number that no digit goes on with, the reader stands behind an item

unfoldable pub Turns : List ℕ → Type 0
Turns [] = Unit {0}
Turns (b ∷ t) = (m : Mark) × (sign b ≡ mark m)

behind_on : (m : Mark) (ls : List ℕ) (es : List Event) (rest : List ℕ) (k : Mode → List ℕ → Answer)
    → onward (behind m ls es) rest k ≡ prepend es (onward (behind m ls []) rest k)
unfolding onward behind prepend
behind_on letter ls es rest k = refl
behind_on left ls es rest k = refl
behind_on right [] es rest k = refl
behind_on right (l ∷ ls) es rest k = sym (prepend_two es (Unlock l ∷ []) (k after ls))
behind_on gap ls es rest k = ap (prepend es) (sym (prepend_none (k fresh ls)))
behind_on other ls es rest k = refl

pub units_ends : (t : List ℕ) (v : ℕ) (ls : List ℕ) → (v ≡ 0 → ⊥) → Turns t → run t (units v) ls ≡ prepend (Work v ∷ []) (run t after ls)
unfolding run ends_in step in_units behind_sign Turns
units_ends [] v ls n h = if_false (eqb v 0) _ _ (ne_eqb v 0 n)
units_ends (b ∷ t) v ls n h = rw h.1 (ap (λ x. onward x (b ∷ t) (λ m' ls'. run t m' ls')) (if_false (eqb v 0) stop (behind h.0 ls (Work v ∷ [])) (ne_eqb v 0 n))
    ∙ behind_on h.0 ls (Work v ∷ []) (b ∷ t) (λ m' ls'. run t m' ls'))

pub lock_ends : (t : List ℕ) (v : ℕ) (ls : List ℕ) → Turns t → run t (lock v) ls ≡ prepend (Acquire v ∷ []) (run t after (v ∷ ls))
unfolding run ends_in ends step in_lock behind_sign Turns prepend
lock_ends [] v ls h = refl
lock_ends (b ∷ t) v ls h = rw h.1 (behind_on h.0 (v ∷ ls) (Acquire v ∷ []) (b ∷ t) (λ m' ls'. run t m' ls'))

-- ---- the digit at a place, as the code gives it

digit_of_lem : (s : Sign) (d : ℕ) → Some d ≡ digit_of s → s ≡ digit d
unfolding digit_of
digit_of_lem (digit e) d h = let k : d ≡ e = cc in ap digit (sym k)
digit_of_lem (mark m) d h = cc

pub digit_here : (text : List ℕ) (a d : ℕ) → Some d ≡ digit_of (sign_at text a) → sign_at text a ≡ digit d
digit_here text a d h = digit_of_lem (sign_at text a) d h

mark_of_lem : (s : Sign) → None ≡ digit_of s → (m : Mark) × (s ≡ mark m)
unfolding digit_of
mark_of_lem (digit e) h = cc
mark_of_lem (mark m) h = (m, refl)

pub mark_here : (text : List ℕ) (a : ℕ) → None ≡ digit_of (sign_at text a) → (m : Mark) × (sign_at text a ≡ mark m)
mark_here text a h = mark_of_lem (sign_at text a) h

-- a digit stands within the text
pub digit_inside : (text : List ℕ) (a d : ℕ) → Some d ≡ digit_of (sign_at text a) → a < length text
unfolding sign_at digit_of sign mark_of
digit_inside text a d h = inside text a (λ e. let z : Some d ≡ None = h ∙ ap (λ x. digit_of (sign x)) e in cc)

pub turns_here : (text : List ℕ) (a : ℕ) → None ≡ digit_of (sign_at text a) → Turns (drop a text)
unfolding Turns sign_at
turns_here text a h = ⊎_elim
    (λ (i : a < length text). rw (drop-cons text a 0 i) (mark_here text a h))
    (λ (i : length text ≤ a). rw (drop_of_length-le text i) tt)
    (lt_or_le a (length text))
