-- The reader reads the text of every well-formed body, and gives that body back; so no text has two readings. Assumes nothing.
use mathlib.Core.Path.{◌≡◌, refl, sym, ◌∙◌, ap}
use mathlib.Core.List.{List, [], ◌∷◌, ◌++◌, append_assoc, append-nil}
use Prim.Native.Nat.{ℕ, zero, suc, ◌+◌, ◌<◌}
use native.Mathlib.Omega.{arith}
use lib.Dec.{ltb}
use lib.ListN.{length}
use borrow.Author.Tests.{lt-ltb}
use Rattle.rules.specs.declared.event.Event.{Event}
use Rattle.page.specs.Decimal.{digits}
use Rattle.jobs.specs.Grammar.{Body, Good, tail_of, text_of, events_in, events_of}
use Rattle.jobs.specs.Grammar.Body.{empty, work, section}
use Rattle.jobs.specs.Grammar.Good.{good_work, good_section}
use Rattle.rules.specs.declared.event.Event.TheVariants.{Acquire, Unlock, Work, Finish}
use Rattle.jobs.specs.Reader.{mark_of, sign, behind, begin, behind_sign, step, prepend, ends, ends_in, onward, run, read_job}
use Rattle.jobs.specs.Reader.Mark.{letter, left, right, gap}
use Rattle.jobs.specs.Reader.Sign.{mark}
use Rattle.jobs.specs.Reader.Mode.{fresh, units, bracket, after}
use Rattle.jobs.specs.Reader.Answer.{read}
use Rattle.jobs.specs.Tree.{followed, Frame, frame, grown, form, reading_of, read_body}
use Rattle.rules.proofs.Numbers.Choice.{if_true}
use Rattle.jobs.proofs.Steps.{prepend_none, prepend_two, Turns, units_ends, lock_ends}
use Rattle.jobs.proofs.Decimals.{run_on, units_read, lock_read}

-- ---- the bytes that are no digits

pub read_gap : (t ls : List ℕ) → run (32 ∷ t) after ls ≡ run t fresh ls
unfolding sign mark_of step behind_sign behind
read_gap t ls = run_on 32 t after fresh (mark gap) ls ls refl refl

pub read_letter : (t ls : List ℕ) → run (119 ∷ t) fresh ls ≡ run t (units 0) ls
unfolding sign mark_of step begin
read_letter t ls = run_on 119 t fresh (units 0) (mark letter) ls ls refl refl

pub read_left : (t ls : List ℕ) → length ls < 8 → run (91 ∷ t) fresh ls ≡ run t bracket ls
unfolding sign mark_of step begin
read_left t ls l = run_on 91 t fresh bracket (mark left) ls ls refl (if_true (ltb (length ls) 8) _ _ (lt-ltb (length ls) 8 l))

pub read_right : (l : ℕ) (t ls : List ℕ) → run (93 ∷ t) after (l ∷ ls) ≡ prepend (Unlock l ∷ []) (run t after ls)
unfolding sign mark_of step behind_sign behind run onward
read_right l t ls = refl

turns_tail : (b : Body) (t : List ℕ) → Turns t → Turns (tail_of b ++ t)
unfolding tail_of Turns sign mark_of
turns_tail empty t h = h
turns_tail (work n rest) t h = (gap, refl)
turns_tail (section l inner rest) t h = (gap, refl)

turns_right : (t : List ℕ) → Turns (93 ∷ t)
unfolding Turns sign mark_of
turns_right t = (right, refl)

-- ---- the items of a body, and what comes after them

pub tail_read : (b : Body) (k : ℕ) (t ls : List ℕ) → Good k b → Turns t → length ls + k ≡ 8 → run (tail_of b ++ t) after ls ≡ prepend (events_in b) (run t after ls)
unfolding tail_of events_in
tail_read empty k t ls g h d = sym (prepend_none (run t after ls))
tail_read (work n rest) k t ls (good_work p q g) h d =
    read_gap _ ls ∙ read_letter _ ls ∙ ap (λ x. run x (units 0) ls) (append_assoc (digits n) (tail_of rest) t) ∙ units_read n (tail_of rest ++ t) ls p q
    ∙ units_ends (tail_of rest ++ t) n ls (λ y. omega arith) (turns_tail rest t h) ∙ ap (prepend (Work n ∷ [])) (tail_read rest k t ls g h d) ∙ prepend_two (Work n ∷ []) (events_in rest) (run t after ls)
tail_read (section l inner rest) zero t ls g h d = elim g [ ]
tail_read (section l inner rest) (suc k) t ls (good_section p gi gr) h d =
    read_gap _ ls ∙ read_left _ ls (omega arith)
    ∙ ap (λ x. run x bracket ls) (append_assoc (digits l ++ tail_of inner) (93 ∷ tail_of rest) t ∙ append_assoc (digits l) (tail_of inner) (93 ∷ (tail_of rest ++ t)))
    ∙ lock_read l (tail_of inner ++ 93 ∷ (tail_of rest ++ t)) ls p
    ∙ lock_ends (tail_of inner ++ 93 ∷ (tail_of rest ++ t)) l ls (turns_tail inner (93 ∷ (tail_of rest ++ t)) (turns_right (tail_of rest ++ t)))
    ∙ ap (prepend (Acquire l ∷ [])) (tail_read inner k (93 ∷ (tail_of rest ++ t)) (l ∷ ls) gi (turns_right (tail_of rest ++ t)) (omega arith)
    ∙ ap (prepend (events_in inner)) (read_right l (tail_of rest ++ t) ls ∙ ap (prepend (Unlock l ∷ [])) (tail_read rest (suc k) t ls gr h d)))
    ∙ ap (λ x. prepend (Acquire l ∷ []) (prepend (events_in inner) x)) (prepend_two (Unlock l ∷ []) (events_in rest) (run t after ls))
    ∙ ap (prepend (Acquire l ∷ [])) (prepend_two (events_in inner) (Unlock l ∷ events_in rest) (run t after ls))
    ∙ prepend_two (Acquire l ∷ []) (events_in inner ++ Unlock l ∷ events_in rest) (run t after ls)

-- a whole text is read as the items of its body
starts : (b : Body) → read_job (text_of b) ≡ run (tail_of b) after []
unfolding read_job text_of tail_of run ends_in ends
starts empty = refl
starts (work n rest) = sym (read_gap (119 ∷ digits n ++ tail_of rest) [])
starts (section l inner rest) = sym (read_gap (91 ∷ digits l ++ tail_of inner ++ 93 ∷ tail_of rest) [])

-- the reader gives the events of the body
pub text_read : (b : Body) → Good 8 b → read_job (text_of b) ≡ read (events_of b)
unfolding events_of run ends_in ends prepend Turns
text_read b g = starts b ∙ ap (λ x. run x after []) (sym (append-nil (tail_of b))) ∙ tail_read b 8 [] [] g tt refl

-- ---- the events of a body give it back

followed_two : (a b c : Body) → followed (followed a b) c ≡ followed a (followed b c)
unfolding followed
followed_two empty b c = refl
followed_two (work n rest) b c = ap (work n) (followed_two rest b c)
followed_two (section l inner rest) b c = ap (section l inner) (followed_two rest b c)

followed_none : (a : Body) → followed a empty ≡ a
unfolding followed
followed_none empty = refl
followed_none (work n rest) = ap (work n) (followed_none rest)
followed_none (section l inner rest) = ap (section l inner) (followed_none rest)

grown_on : (b : Body) (es : List Event) (d : Body) (fs : List Frame) → grown (events_in b ++ es) d fs ≡ grown es (followed d b) fs
unfolding grown events_in followed
grown_on empty es d fs = ap (λ x. grown es x fs) (sym (followed_none d))
grown_on (work n rest) es d fs = grown_on rest es (followed d (work n empty)) fs ∙ ap (λ x. grown es x fs) (followed_two d (work n empty) rest)
grown_on (section l inner rest) es d fs =
    ap (λ x. grown x empty (frame l d ∷ fs)) (append_assoc (events_in inner) (Unlock l ∷ events_in rest) es)
    ∙ grown_on inner (Unlock l ∷ (events_in rest ++ es)) empty (frame l d ∷ fs)
    ∙ grown_on rest es (followed d (section l inner empty)) fs ∙ ap (λ x. grown es x fs) (followed_two d (section l inner empty) rest)

grown_back : (b : Body) → grown (events_of b) empty [] ≡ b
unfolding events_of grown followed
grown_back b = grown_on b (Finish ∷ []) empty []

-- reading the text of a well-formed body gives that body
pub body_read : (b : Body) → Good 8 b → read_body (text_of b) ≡ form b
unfolding read_body reading_of
body_read b g = ap reading_of (text_read b g) ∙ ap form (grown_back b)

-- no text has two readings
pub one_reading_lem : (a b : Body) → Good 8 a → Good 8 b → text_of a ≡ text_of b → a ≡ b
one_reading_lem a b g h e =
    let p : read_body (text_of a) ≡ form a = body_read a g in
    let q : read_body (text_of b) ≡ form b = body_read b h in
    let r : read_body (text_of a) ≡ read_body (text_of b) = ap read_body e in
    cc
