-- What the reader accepts is the text of a well-formed body. The items read so far stand in sections that are not at their end, and their text is what was read. Assumes nothing.
use mathlib.Core.Path.{◌≡◌, refl, sym, ◌∙◌, ap}
use mathlib.Core.List.{List, [], ◌∷◌, ◌++◌, append_assoc, append-nil}
use Prim.Native.Nat.{ℕ, zero, suc, ◌+◌, ◌*◌, ◌≤◌, ◌<◌}
use native.Mathlib.Omega.{arith}
use lib.Dec.{eqb, ltb}
use lib.ListN.{length, drop}
use borrow.Author.Tests.{eqb-false, ltb-true, ltb-false}
use Rattle.rules.specs.declared.event.Event.{Event}
use Rattle.page.specs.Decimal.{digits}
use Rattle.jobs.specs.Grammar.{Body, Good, tail_of, text_of, events_of}
use Rattle.jobs.specs.Grammar.Body.{empty, work, section}
use Rattle.jobs.specs.Grammar.Good.{good_empty, good_work, good_section}
use Rattle.rules.specs.declared.event.Event.TheVariants.{Acquire, Unlock, Work}
use Rattle.jobs.specs.Reader.{Sign, Mode, Answer, sign, behind, begin, in_units, in_bracket, in_lock, behind_sign, step, prepend, ends, ends_in, onward, run, read_job}
use Rattle.jobs.specs.Reader.Mark.{letter, left, right, gap, other}
use Rattle.jobs.specs.Reader.Sign.{digit, mark}
use Rattle.jobs.specs.Reader.Mode.{fresh, units, bracket, lock, after}
use Rattle.jobs.specs.Reader.Move.{move, stop}
use Rattle.jobs.specs.Reader.Answer.{refused, read}
use Rattle.jobs.specs.Tree.{followed, Frame, frame, form, reading_of, read_body}
use Rattle.rules.proofs.Numbers.Choice.{if_true, if_false, by_test}
use Rattle.jobs.proofs.Steps.{Spells, spells, Turns, units_ends, lock_ends}
use Rattle.jobs.proofs.Decimals.{one_digit, digit_more}
use Rattle.jobs.proofs.Texts.{text_read, body_read}

-- ---- answers

never : {P : Type 0} {rest : List ℕ} {es : List Event} → refused rest ≡ read es → P
never {rest = rest} {es} e = let z : ◌≡◌ {A = ℕ} 0 1 = cc in absurd (omega arith)

read_before : (xs es : List Event) (r : Answer) → prepend xs r ≡ read es → (fs : List Event) × (r ≡ read fs)
unfolding prepend
read_before xs es (refused rest) e = never e
read_before xs es (read fs) e = (fs, refl)

-- a byte that stops, and one that leads on, of a text that is accepted
stops : {P : Type 0} (b : ℕ) (t : List ℕ) (m : Mode) (ls : List ℕ) (es : List Event) → step m (sign b) ls ≡ stop → run (b ∷ t) m ls ≡ read es → P
unfolding run onward
stops b t m ls es e h = never (sym (ap (λ x. onward x (b ∷ t) (λ m'' ls''. run t m'' ls'')) e) ∙ h)

leads : (b : ℕ) (t : List ℕ) (m m' : Mode) (ls ls' : List ℕ) (xs es : List Event) → step m (sign b) ls ≡ move m' ls' xs → run (b ∷ t) m ls ≡ read es → (fs : List Event) × (run t m' ls' ≡ read fs)
unfolding run onward
leads b t m m' ls ls' xs es e h = read_before xs es (run t m' ls') (sym (ap (λ x. onward x (b ∷ t) (λ m'' ls''. run t m'' ls'')) e) ∙ h)

-- ---- bodies one after the other

tail_followed : (a b : Body) → tail_of (followed a b) ≡ tail_of a ++ tail_of b
unfolding followed tail_of
tail_followed empty b = refl
tail_followed (work n rest) b = ap (λ x. 32 ∷ 119 ∷ digits n ++ x) (tail_followed rest b) ∙ sym (append_assoc (32 ∷ 119 ∷ digits n) (tail_of rest) (tail_of b))
tail_followed (section l inner rest) b = ap (λ x. 32 ∷ 91 ∷ digits l ++ tail_of inner ++ 93 ∷ x) (tail_followed rest b)
    ∙ sym (append_assoc (32 ∷ 91 ∷ digits l ++ tail_of inner) (93 ∷ tail_of rest) (tail_of b))

good_followed : (k : ℕ) (a b : Body) → Good k a → Good k b → Good k (followed a b)
unfolding followed
good_followed k empty b g h = h
good_followed k (work n rest) b (good_work p q g) h = good_work p q (good_followed k rest b g h)
good_followed zero (section l inner rest) b g h = elim g [ ]
good_followed (suc k) (section l inner rest) b (good_section p gi g) h = good_section p gi (good_followed (suc k) rest b g h)

-- ---- the text that was read

-- sections that are not at their end, with k more levels inside the innermost
data Within : ℕ → List Frame → Type 0 where
  outside : Within 8 []
  inside : {k l : ℕ} {b : Body} {fs : List Frame} → l ≤ 31 → Good (suc k) b → Within (suc k) fs → Within k (frame l b ∷ fs)

locks : List Frame → List ℕ
locks [] = []
locks (f ∷ fs) = f.held ∷ locks fs

depth : (k : ℕ) (fs : List Frame) → Within k fs → length (locks fs) + k ≡ 8
unfolding locks
depth k [] outside = refl
depth k (f ∷ fs) (inside p g w) = let h : length (locks fs) + suc k ≡ 8 = depth (suc k) fs w in omega arith

begun : List Frame → List ℕ
begun [] = []
begun (f ∷ fs) = begun fs ++ tail_of f.before ++ 32 ∷ 91 ∷ digits f.held

-- the digits of units so far
some : ℕ → List ℕ
some zero = []
some (suc v) = digits (suc v)

some_is : (v : ℕ) → (v ≡ 0 → ⊥) → some v ≡ digits v
unfolding some
some_is zero z = absurd (z refl)
some_is (suc v) z = refl

some_more : (v x : ℕ) → x < 10 → (v * 10 + x ≡ 0 → ⊥) → some (v * 10 + x) ≡ some v ++ (48 + x) ∷ []
unfolding some
some_more zero x l z = let e : 0 * 10 + x ≡ x = omega arith in some_is (0 * 10 + x) z ∙ ap digits e ∙ one_digit x l
some_more (suc v) x l z = some_is (suc v * 10 + x) z ∙ digit_more (suc v) x l (omega arith)

so_far : Mode → List ℕ
so_far fresh = 32 ∷ []
so_far (units v) = 32 ∷ 119 ∷ some v
so_far bracket = 32 ∷ 91 ∷ []
so_far (lock v) = 32 ∷ 91 ∷ digits v
so_far after = []

past : List Frame → Body → Mode → List ℕ
past fs d m = begun fs ++ tail_of d ++ so_far m

-- what holds of the mode
Fine : ℕ → Mode → Type 0
Fine k fresh = Unit {0}
Fine k (units v) = v ≤ 65535
Fine k bracket = 1 ≤ k
Fine k (lock v) = (1 ≤ k) × (v ≤ 31)
Fine k after = Unit {0}

-- a text, with a space before it, is that of a well-formed body
Whole : List ℕ → Type 0
Whole u = (b : Body) × Good 8 b × (tail_of b ≡ u)

whole_as : {u v : List ℕ} → u ≡ v → Whole u → Whole v
unfolding Whole
whole_as e (b, g, h) = (b, g, h ∙ e)

-- what is left to show of a text t that is accepted
abbrev Sound : List ℕ → Type 0
Sound t = (m : Mode) (fs : List Frame) (d : Body) (k : ℕ) (es : List Event) → Within k fs → Good k d → Fine k m → run t m (locks fs) ≡ read es → Whole (past fs d m ++ t)

-- one byte passes from what is left to what was read
passed : (x y : List ℕ) (b : ℕ) (t : List ℕ) → x ++ (y ++ b ∷ []) ++ t ≡ x ++ y ++ b ∷ t
passed x y b t = ap (λ z. z ++ t) (sym (append_assoc x y (b ∷ []))) ∙ append_assoc (x ++ y) (b ∷ []) t

passing : (fs : List Frame) (d : Body) (m m' : Mode) (b : ℕ) (t : List ℕ) → so_far m' ≡ so_far m ++ b ∷ [] → past fs d m' ++ t ≡ past fs d m ++ b ∷ t
unfolding past
passing fs d m m' b t e = ap (λ x. begun fs ++ tail_of d ++ x ++ t) e ∙ passed (begun fs ++ tail_of d) (so_far m) b t

-- behind an units, and behind a lock's number
units_past : (fs : List Frame) (d : Body) (v : ℕ) → (v ≡ 0 → ⊥) → past fs (followed d (work v empty)) after ≡ past fs d (units v)
unfolding past so_far tail_of
units_past fs d v z = append-nil (begun fs ++ tail_of (followed d (work v empty))) ∙ ap (λ x. begun fs ++ x) (tail_followed d (work v empty) ∙ ap (λ x. tail_of d ++ x) (append-nil (32 ∷ 119 ∷ digits v) ∙ ap (λ x. 32 ∷ 119 ∷ x) (sym (some_is v z))))
    ∙ sym (append_assoc (begun fs) (tail_of d) (32 ∷ 119 ∷ some v))

lock_past : (fs : List Frame) (d : Body) (v : ℕ) → past (frame v d ∷ fs) empty after ≡ past fs d (lock v)
unfolding past so_far tail_of begun
lock_past fs d v = append-nil (begun fs ++ tail_of d ++ 32 ∷ 91 ∷ digits v ++ []) ∙ append-nil (begun fs ++ tail_of d ++ 32 ∷ 91 ∷ digits v)

-- the section's end
section_past : (fs : List Frame) (a d : Body) (l : ℕ) (t : List ℕ) → past fs (followed a (section l d empty)) after ++ t ≡ past (frame l a ∷ fs) d after ++ 93 ∷ t
unfolding past so_far tail_of begun
section_past fs a d l t =
    let h : List ℕ = 32 ∷ 91 ∷ digits l in
    ap (λ x. x ++ t) (append-nil (begun fs ++ tail_of (followed a (section l d empty)))
    ∙ ap (λ x. begun fs ++ x) (tail_followed a (section l d empty))
    ∙ sym (append_assoc (begun fs) (tail_of a) (h ++ tail_of d ++ 93 ∷ []))
    ∙ sym (append_assoc (begun fs ++ tail_of a) (h ++ tail_of d) (93 ∷ []))
    ∙ ap (λ x. x ++ 93 ∷ []) (sym (append_assoc (begun fs ++ tail_of a) h (tail_of d))))
    ∙ append_assoc (begun fs ++ tail_of a ++ h ++ tail_of d) (93 ∷ []) t
    ∙ ap (λ x. x ++ 93 ∷ t) (sym (append-nil (begun fs ++ tail_of a ++ h ++ tail_of d)))

-- ---- byte by byte

from_after : (b : ℕ) (t : List ℕ) (s : Sign) → sign b ≡ s → Spells s b → Sound t → (fs : List Frame) (d : Body) (k : ℕ) (es : List Event) → Within k fs → Good k d → run (b ∷ t) after (locks fs) ≡ read es → Whole (past fs d after ++ b ∷ t)
unfolding step behind_sign behind locks Fine Spells so_far
from_after b t (digit x) e p ih fs d k es w g h = stops b t after (locks fs) es (ap (λ u. behind_sign u (locks fs)) e) h
from_after b t (mark letter) e p ih fs d k es w g h = stops b t after (locks fs) es (ap (λ u. behind_sign u (locks fs)) e) h
from_after b t (mark left) e p ih fs d k es w g h = stops b t after (locks fs) es (ap (λ u. behind_sign u (locks fs)) e) h
from_after b t (mark right) e p ih [] d k es w g h = stops b t after [] es (ap (λ u. behind_sign u []) e) h
from_after b t (mark right) e p ih (f ∷ fs) d k es (inside q gb w) g h =
    let (xs, r) = leads b t after after (f.held ∷ locks fs) (locks fs) (Unlock f.held ∷ []) es (ap (λ u. behind_sign u (f.held ∷ locks fs)) e) h in
    whole_as (section_past fs f.before d f.held t ∙ ap (λ x. past (f ∷ fs) d after ++ x ∷ t) (sym p))
    (ih after fs (followed f.before (section f.held d empty)) (suc k) xs w (good_followed (suc k) f.before (section f.held d empty) gb (good_section q g good_empty)) tt r)
from_after b t (mark gap) e p ih fs d k es w g h =
    let (xs, r) = leads b t after fresh (locks fs) (locks fs) [] es (ap (λ u. behind_sign u (locks fs)) e) h in
    whole_as (passing fs d after fresh b t (ap (λ x. x ∷ []) (sym p))) (ih fresh fs d k xs w g tt r)
from_after b t (mark other) e p ih fs d k es w g h = stops b t after (locks fs) es (ap (λ u. behind_sign u (locks fs)) e) h

from_fresh : (b : ℕ) (t : List ℕ) (s : Sign) → sign b ≡ s → Spells s b → Sound t → (fs : List Frame) (d : Body) (k : ℕ) (es : List Event) → Within k fs → Good k d → run (b ∷ t) fresh (locks fs) ≡ read es → Whole (past fs d fresh ++ b ∷ t)
unfolding step begin Fine Spells so_far some
from_fresh b t (digit x) e p ih fs d k es w g h = stops b t fresh (locks fs) es (ap (λ u. begin u (locks fs)) e) h
from_fresh b t (mark letter) e p ih fs d k es w g h =
    let (xs, r) = leads b t fresh (units 0) (locks fs) (locks fs) [] es (ap (λ u. begin u (locks fs)) e) h in
    whole_as (passing fs d fresh (units 0) b t (ap (λ x. 32 ∷ x ∷ []) (sym p))) (ih (units 0) fs d k xs w g (omega arith) r)
from_fresh b t (mark left) e p ih fs d k es w g h = by_test (ltb (length (locks fs)) 8)
    (λ y. let (xs, r) = leads b t fresh bracket (locks fs) (locks fs) [] es (ap (λ u. begin u (locks fs)) e ∙ if_true (ltb (length (locks fs)) 8) _ _ y) h in
    whole_as (passing fs d fresh bracket b t (ap (λ x. 32 ∷ x ∷ []) (sym p))) (ih bracket fs d k xs w g (omega (arith, depth k fs w, ltb-true (length (locks fs)) 8 y)) r))
    (λ y. stops b t fresh (locks fs) es (ap (λ u. begin u (locks fs)) e ∙ if_false (ltb (length (locks fs)) 8) _ _ y) h)
from_fresh b t (mark right) e p ih fs d k es w g h = stops b t fresh (locks fs) es (ap (λ u. begin u (locks fs)) e) h
from_fresh b t (mark gap) e p ih fs d k es w g h = stops b t fresh (locks fs) es (ap (λ u. begin u (locks fs)) e) h
from_fresh b t (mark other) e p ih fs d k es w g h = stops b t fresh (locks fs) es (ap (λ u. begin u (locks fs)) e) h

from_units : (b : ℕ) (t : List ℕ) (s : Sign) → sign b ≡ s → Spells s b → Sound t → (v : ℕ) (fs : List Frame) (d : Body) (k : ℕ) (es : List Event) → Within k fs → Good k d → v ≤ 65535 → run (b ∷ t) (units v) (locks fs) ≡ read es
    → Whole (past fs d (units v) ++ b ∷ t)
unfolding step in_units Fine Spells so_far Turns
from_units b t (digit x) e p ih v fs d k es w g l h = by_test (eqb (v * 10 + x) 0)
    (λ y. stops b t (units v) (locks fs) es (ap (λ u. in_units u v (locks fs)) e ∙ if_true (eqb (v * 10 + x) 0) _ _ y) h)
    (λ y. by_test (ltb 65535 (v * 10 + x))
    (λ z. stops b t (units v) (locks fs) es (ap (λ u. in_units u v (locks fs)) e ∙ if_false (eqb (v * 10 + x) 0) _ _ y ∙ if_true (ltb 65535 (v * 10 + x)) _ _ z) h)
    (λ z. let (xs, r) = leads b t (units v) (units (v * 10 + x)) (locks fs) (locks fs) [] es (ap (λ u. in_units u v (locks fs)) e ∙ if_false (eqb (v * 10 + x) 0) _ _ y ∙ if_false (ltb 65535 (v * 10 + x)) _ _ z) h in
    whole_as (passing fs d (units v) (units (v * 10 + x)) b t (ap (λ u. 32 ∷ 119 ∷ u) (some_more v x p.1 (eqb-false (v * 10 + x) 0 y) ∙ ap (λ u. some v ++ u ∷ []) (sym p.0))))
    (ih (units (v * 10 + x)) fs d k xs w g (ltb-false 65535 (v * 10 + x) z) r)))
from_units b t (mark m) e p ih v fs d k es w g l h = by_test (eqb v 0)
    (λ y. stops b t (units v) (locks fs) es (ap (λ u. in_units u v (locks fs)) e ∙ if_true (eqb v 0) _ _ y) h)
    (λ y. let z : (v ≡ 0 → ⊥) = eqb-false v 0 y in
    let (xs, r) = read_before (Work v ∷ []) es (run (b ∷ t) after (locks fs)) (sym (units_ends (b ∷ t) v (locks fs) z (m, e)) ∙ h) in
    whole_as (ap (λ u. u ++ b ∷ t) (units_past fs d v z))
    (from_after b t (mark m) e p ih fs (followed d (work v empty)) k xs w (good_followed k d (work v empty) g (good_work (omega arith) l good_empty)) r))

from_bracket : (b : ℕ) (t : List ℕ) (s : Sign) → sign b ≡ s → Spells s b → Sound t → (fs : List Frame) (d : Body) (k : ℕ) (es : List Event) → Within k fs → Good k d → 1 ≤ k → run (b ∷ t) bracket (locks fs) ≡ read es → Whole (past fs d bracket ++ b ∷ t)
unfolding step in_bracket Fine Spells so_far
from_bracket b t (digit x) e p ih fs d k es w g l h =
    let (xs, r) = leads b t bracket (lock x) (locks fs) (locks fs) [] es (ap (λ u. in_bracket u (locks fs)) e) h in
    whole_as (passing fs d bracket (lock x) b t (ap (λ u. 32 ∷ 91 ∷ u) (one_digit x p.1 ∙ ap (λ u. u ∷ []) (sym p.0)))) (ih (lock x) fs d k xs w g (l, omega (arith, p.1)) r)
from_bracket b t (mark m) e p ih fs d k es w g l h = stops b t bracket (locks fs) es (ap (λ u. in_bracket u (locks fs)) e) h

from_lock : (b : ℕ) (t : List ℕ) (s : Sign) → sign b ≡ s → Spells s b → Sound t → (v : ℕ) (fs : List Frame) (d : Body) (k : ℕ) (es : List Event) → Within k fs → Good k d → 1 ≤ k → v ≤ 31 → run (b ∷ t) (lock v) (locks fs) ≡ read es
    → Whole (past fs d (lock v) ++ b ∷ t)
unfolding step in_lock Fine Spells so_far Turns locks
from_lock b t (digit x) e p ih v fs d k es w g q l h = by_test (eqb v 0)
    (λ y. stops b t (lock v) (locks fs) es (ap (λ u. in_lock u v (locks fs)) e ∙ if_true (eqb v 0) _ _ y) h)
    (λ y. by_test (ltb 31 (v * 10 + x))
    (λ z. stops b t (lock v) (locks fs) es (ap (λ u. in_lock u v (locks fs)) e ∙ if_false (eqb v 0) _ _ y ∙ if_true (ltb 31 (v * 10 + x)) _ _ z) h)
    (λ z. let n : (v ≡ 0 → ⊥) = eqb-false v 0 y in
    let (xs, r) = leads b t (lock v) (lock (v * 10 + x)) (locks fs) (locks fs) [] es (ap (λ u. in_lock u v (locks fs)) e ∙ if_false (eqb v 0) _ _ y ∙ if_false (ltb 31 (v * 10 + x)) _ _ z) h in
    whole_as (passing fs d (lock v) (lock (v * 10 + x)) b t (ap (λ u. 32 ∷ 91 ∷ u) (digit_more v x p.1 (omega arith) ∙ ap (λ u. digits v ++ u ∷ []) (sym p.0))))
    (ih (lock (v * 10 + x)) fs d k xs w g (q, ltb-false 31 (v * 10 + x) z) r)))
from_lock b t (mark m) e p ih v fs d zero es w g q l h = absurd (omega arith)
from_lock b t (mark m) e p ih v fs d (suc k) es w g q l h =
    let (xs, r) = read_before (Acquire v ∷ []) es (run (b ∷ t) after (v ∷ locks fs)) (sym (lock_ends (b ∷ t) v (locks fs) (m, e)) ∙ h) in
    whole_as (ap (λ u. u ++ b ∷ t) (lock_past fs d v)) (from_after b t (mark m) e p ih (frame v d ∷ fs) empty k xs (inside l g w) good_empty r)

-- the end
from_end : (fs : List Frame) (d : Body) (k : ℕ) (es : List Event) → Within k fs → Good k d → ends (locks fs) ≡ read es → Whole (past fs d after ++ [])
unfolding ends locks Whole past begun so_far
from_end [] d k es outside g h = (d, g, sym (append-nil (tail_of d ++ []) ∙ append-nil (tail_of d)))
from_end (f ∷ fs) d k es w g h = never h

accepted : (t : List ℕ) → Sound t
unfolding run ends_in Fine Turns
accepted [] fresh fs d k es w g f h = never h
accepted [] (units v) fs d k es w g f h = by_test (eqb v 0)
    (λ y. never (sym (if_true (eqb v 0) _ _ y) ∙ h))
    (λ y. let z : (v ≡ 0 → ⊥) = eqb-false v 0 y in
    let (xs, r) = read_before (Work v ∷ []) es (ends (locks fs)) (sym (if_false (eqb v 0) _ _ y) ∙ h) in
    whole_as (ap (λ u. u ++ []) (units_past fs d v z)) (from_end fs (followed d (work v empty)) k xs w (good_followed k d (work v empty) g (good_work (omega arith) f good_empty)) r))
accepted [] bracket fs d k es w g f h = never h
accepted [] (lock v) fs d k es w g f h = never h
accepted [] after fs d k es w g f h = from_end fs d k es w g h
accepted (b ∷ t) fresh fs d k es w g f h = from_fresh b t (sign b) refl (spells b) (accepted t) fs d k es w g h
accepted (b ∷ t) (units v) fs d k es w g f h = from_units b t (sign b) refl (spells b) (accepted t) v fs d k es w g f h
accepted (b ∷ t) bracket fs d k es w g f h = from_bracket b t (sign b) refl (spells b) (accepted t) fs d k es w g f h
accepted (b ∷ t) (lock v) fs d k es w g f h = from_lock b t (sign b) refl (spells b) (accepted t) v fs d k es w g f.0 f.1 h
accepted (b ∷ t) after fs d k es w g f h = from_after b t (sign b) refl (spells b) (accepted t) fs d k es w g h

-- ---- what is accepted is the text of a well-formed body, and its events are those of the body

pub text_of_read : (text : List ℕ) (es : List Event) → read_job text ≡ read es → (b : Body) × Good 8 b × (text_of b ≡ text)
unfolding read_job text_of Whole past begun tail_of so_far locks Fine
text_of_read [] es h = (empty, good_empty, refl)
text_of_read (c ∷ t) es h = let (b, g, e) = accepted (c ∷ t) fresh [] empty 8 es outside good_empty tt h in (b, g, ap (drop 1) e)

pub events_of_read : (text : List ℕ) (es : List Event) → read_job text ≡ read es → (b : Body) × Good 8 b × (text_of b ≡ text) × (es ≡ events_of b)
events_of_read text es h =
    let (b, g, e) = text_of_read text es h in
    let k : read_job text ≡ read (events_of b) = ap read_job (sym e) ∙ text_read b g in
    (b, g, e, cc)

read_form : (r : Answer) (b : Body) → reading_of r ≡ form b → (es : List Event) × (r ≡ read es)
unfolding reading_of
read_form (refused rest) b h = let z : ◌≡◌ {A = ℕ} 0 1 = cc in absurd (omega arith)
read_form (read es) b h = (es, refl)

-- the body that the reader gives is well formed, and the text is its text
pub form_of_text : (text : List ℕ) (b : Body) → read_body text ≡ form b → Good 8 b × (text_of b ≡ text)
unfolding read_body
form_of_text text b h =
    let (es, r) = read_form (read_job text) b h in
    let (a, g, e) = text_of_read text es r in
    let k : form a ≡ form b = sym (body_read a g) ∙ ap read_body e ∙ h in
    let q : a ≡ b = cc in
    same a b q g e
  where
    same : (a b : Body) → a ≡ b → Good 8 a → text_of a ≡ text → Good 8 b × (text_of b ≡ text)
    same a b q g e = (rw q at g, rw q at e)
