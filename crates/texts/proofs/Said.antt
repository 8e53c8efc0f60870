-- The ways through the code that reads one line. Assumes nothing.
use mathlib.Core.Path.{◌≡◌, refl, sym, ◌∙◌, ap}
use mathlib.Core.Bool.{Bool, true, false}
use mathlib.Core.List.{List, [], ◌∷◌}
use Prim.Native.Nat.{ℕ, ◌+◌, ◌-◌, ◌*◌, ◌≤◌, ◌<◌}
use native.Mathlib.Omega.{arith}
use lib.Dec.{eqb, ltb}
use lib.ListN.{length, take, drop}
use lib.Seq.{drop-drop, take_all}
use borrow.Author.Tests.{lt-ltb, le-ltb, eq-eqb, ne_eqb, eqb-true, eqb-false}
use Rattle.rules.proofs.Numbers.Choice.{if_true, if_false, by_test}
use Rattle.jobs.specs.Job.{Job, job_with, job_answer}
use Rattle.rules.specs.declared.answer.Fault.{Fault}
use Rattle.rules.specs.Numbers.Place.{at}
use Rattle.texts.specs.Cut.{return, space, hash, up_to, spaces_of, without_spaces, before, trimmed, bare}
use Rattle.texts.specs.Kind.{kind_named, fields_of, most_of, part_of, record_of, has_items}
use Rattle.texts.specs.Number.{number_of}
use Rattle.texts.specs.Line.{without_return, content_of, word_length, field_of, field_length, after_field, plain_line, job_room, job_said, job_line, ended, with_second, with_first, named_line, words_line, line_of, items_after, items_of}
use Rattle.texts.specs.declared.kind.Kind.{Kind}
use Rattle.texts.specs.declared.number.Mistake.{Mistake}
use Rattle.std.specs.Prelude.{Option, Some, None, Result, Ok, Err}
use Rattle.texts.specs.declared.line.Line.{Line}
use Rattle.texts.proofs.Cuts.{rest, rest_is}
use Rattle.texts.proofs.Named.{most_within}
use Rattle.texts.proofs.Values.{number_within}

-- a list without elements
none : (bytes : List ℕ) → length bytes ≡ 0 → bytes ≡ []
none [] e = refl
none (c ∷ cs) e = absurd (omega arith)

-- the line without its carriage return, and without none
pub return_off : (line : List ℕ) → 1 ≤ length line → at line (length line - 1) ≡ return → take (length line - 1) line ≡ take (without_return line) line
unfolding without_return
return_off line l e = ap (λ n. take n line) (sym (if_false (eqb (length line) 0) _ _ (ne_eqb (length line) 0 (λ z. omega arith)) ∙ if_true (eqb (at line (length line - 1)) return) _ _ (eq-eqb (at line (length line - 1)) return e)))

pub return_none : (line : List ℕ) → (1 ≤ length line → at line (length line - 1) ≡ return → ⊥) → line ≡ take (without_return line) line
unfolding without_return
return_none line n = sym (ap (λ k. take k line) (by_test (eqb (length line) 0)
    (λ t. if_true (eqb (length line) 0) _ _ t ∙ sym (eqb-true (length line) 0 t))
    (λ t. if_false (eqb (length line) 0) _ _ t ∙ if_false (eqb (at line (length line - 1)) return) _ _ (ne_eqb (at line (length line - 1)) return (n (omega (arith, eqb-false (length line) 0 t))))))
    ∙ take_all (length line) line (omega arith))

-- what comes after the first word and its spaces
pub word_rest : (bytes left : List ℕ) (n m : ℕ) → left ≡ drop n bytes → n ≡ up_to space bytes → m ≡ spaces_of left → rest m left ≡ drop (word_length bytes) bytes
unfolding word_length
word_rest bytes left n m l e f =
    rest_is m left ∙ ap (λ k. drop k left) (f ∙ ap spaces_of l) ∙ ap (drop (spaces_of (drop n bytes))) l ∙ ap (λ k. drop (spaces_of (drop k bytes)) (drop k bytes)) e
    ∙ drop-drop (spaces_of (drop (up_to space bytes) bytes)) (up_to space bytes) bytes

-- ---- a number, and what comes after it

module _ (kind : Kind) (w f : ℕ) (bytes : List ℕ) (e : f ≡ fields_of kind) where
  pub field_some : (m : ℕ) (word : List ℕ) (r : Result ℕ Mistake) → w < f → r ≡ number_of m word → m ≡ most_of kind w → word ≡ before space bytes → r ≡ field_of kind w bytes
  unfolding field_of
  field_some m word r l h g u =
      h ∙ ap (λ k. number_of k word) g ∙ ap (number_of (most_of kind w)) u ∙ sym (if_true (ltb w (fields_of kind)) _ _ (lt-ltb w (fields_of kind) (omega (arith, e))))

  pub field_none : f ≤ w → Ok 0 ≡ field_of kind w bytes
  unfolding field_of
  field_none l = sym (if_false (ltb w (fields_of kind)) _ _ (le-ltb w (fields_of kind) (omega (arith, e))))

  pub after_some : (left : List ℕ) → w < f → left ≡ drop (word_length bytes) bytes → left ≡ after_field kind w bytes
  unfolding field_length
  after_some left l h = h ∙ sym (ap (λ k. drop k bytes) (if_true (ltb w (fields_of kind)) _ _ (lt-ltb w (fields_of kind) (omega (arith, e)))))

  pub after_none : f ≤ w → bytes ≡ after_field kind w bytes
  unfolding field_length
  after_none l = sym (ap (λ k. drop k bytes) (if_false (ltb w (fields_of kind)) _ _ (le-ltb w (fields_of kind) (omega (arith, e)))))

-- it fits two bytes
pub field_within : (kind : Kind) (w v : ℕ) (bytes : List ℕ) (r : Result ℕ Mistake) → r ≡ field_of kind w bytes → r ≡ Ok v → v ≤ 65535
unfolding field_of
field_within kind w v bytes r h e = by_test (ltb w (fields_of kind))
    (λ t. let g : number_of (most_of kind w) (before space bytes) ≡ Ok v = sym (if_true (ltb w (fields_of kind)) _ _ t) ∙ sym h ∙ e in
    omega (arith, number_within (most_of kind w) (before space bytes) v g, most_within kind w))
    (λ t. let g : Ok 0 ≡ Ok v = sym (if_false (ltb w (fields_of kind)) _ _ t) ∙ sym h ∙ e in
    let z : 0 ≡ v = cc in omega arith)

-- ---- after the numbers

pub plain_so : (kind : Kind) (a b p w : ℕ) (bytes : List ℕ) → p ≡ part_of kind → w ≡ record_of kind a b → length bytes ≡ 0
    → Line.Record p w ≡ plain_line kind a b bytes
unfolding plain_line
plain_so kind a b p w bytes e f l = ap (λ q. Line.Record q w) e ∙ ap (Line.Record (part_of kind)) f ∙ ap (plain_line kind a b) (sym (none bytes l))

plain_more : (kind : Kind) (a b : ℕ) (bytes : List ℕ) → (length bytes ≡ 0 → ⊥) → Line.Wrong kind (fields_of kind + 2) Mistake.TooMany ≡ plain_line kind a b bytes
unfolding plain_line
plain_more kind a b [] n = absurd (n refl)
plain_more kind a b (c ∷ cs) n = refl

pub plain_not : (kind : Kind) (a b f : ℕ) (bytes : List ℕ) → f ≡ fields_of kind → (length bytes ≡ 0 → ⊥)
    → Line.Wrong kind (f + 2) Mistake.TooMany ≡ plain_line kind a b bytes
plain_not kind a b f bytes e n = ap (λ k. Line.Wrong kind (k + 2) Mistake.TooMany) e ∙ plain_more kind a b bytes n

pub ended_plain : (kind : Kind) (a b : ℕ) (bytes : List ℕ) (t : Bool) (r : Line) → r ≡ plain_line kind a b bytes → t ≡ has_items kind → t ≡ false
    → r ≡ ended kind a b bytes
unfolding ended
ended_plain kind a b bytes t r h e f = h ∙ sym (if_false (has_items kind) _ _ (sym e ∙ f))

-- a job
pub room_left : (n room : ℕ) → (job_with (Ok n)).events * 4 ≤ room → n * 4 ≤ room
unfolding job_with
room_left n room h = h

module _ (items : List ℕ) (w : ℕ) where
  pub job_right : (n : ℕ) → job_with (Ok n) ≡ job_answer items job_room → Line.Job w (n + 1) ≡ job_line w items
  unfolding job_line job_said job_with
  job_right n h = ap (λ (j : Job). job_said w j.verdict j.events) h

  pub job_wrong : (f : Fault) → job_with (Err f) ≡ job_answer items job_room → Line.Refused f.why f.place ≡ job_line w items
  unfolding job_line job_said job_with
  job_wrong f h = ap (λ (j : Job). job_said w j.verdict j.events) h

pub ended_job : (kind : Kind) (a b n w : ℕ) (bytes : List ℕ) (t : Bool) (r : Line) → r ≡ job_line w (take n bytes) → w ≡ record_of kind a b → n ≡ without_spaces bytes
    → t ≡ has_items kind → t ≡ true
    → r ≡ ended kind a b bytes
unfolding ended
ended_job kind a b n w bytes t r h g l e f =
    h ∙ ap (λ k. job_line w (take k bytes)) l ∙ ap (λ k. job_line k (bare bytes)) g ∙ sym (if_true (has_items kind) _ _ (sym e ∙ f))

-- ---- its two numbers

module _ (kind : Kind) (w : ℕ) (bytes left : List ℕ) (found : Result ℕ Mistake) (e : found ≡ field_of kind w bytes) (l : left ≡ after_field kind w bytes) where
  pub second_value : (a b : ℕ) (r : Line) → w ≡ 1 → found ≡ Ok b → r ≡ ended kind a b left → r ≡ with_second kind a (field_of kind w bytes) (after_field kind w bytes)
  unfolding with_second
  second_value a b r q v h = h ∙ ap (ended kind a b) l ∙ ap (λ x. with_second kind a x (after_field kind w bytes)) (sym v ∙ e)

  pub second_wrong : (a : ℕ) (m : Mistake) → found ≡ Err m → Line.Wrong kind 3 m ≡ with_second kind a (field_of kind w bytes) (after_field kind w bytes)
  unfolding with_second
  second_wrong a m v = ap (λ x. with_second kind a x (after_field kind w bytes)) (sym v ∙ e)

  pub first_value : (a : ℕ) (r : Line) → found ≡ Ok a → r ≡ with_second kind a (field_of kind 1 left) (after_field kind 1 left)
      → r ≡ with_first kind (field_of kind w bytes) (after_field kind w bytes)
  unfolding with_first
  first_value a r v h = h ∙ ap (with_first kind (Ok a)) l ∙ ap (λ x. with_first kind x (after_field kind w bytes)) (sym v ∙ e)

  pub first_wrong_lem : (m : Mistake) → found ≡ Err m → Line.Wrong kind 2 m ≡ with_first kind (field_of kind w bytes) (after_field kind w bytes)
  unfolding with_first
  first_wrong_lem m v = ap (λ x. with_first kind x (after_field kind w bytes)) (sym v ∙ e)

-- ---- its name

pub words_none : (bytes : List ℕ) → length bytes ≡ 0 → Line.Blank ≡ words_line bytes
unfolding words_line
words_none bytes l = ap words_line (sym (none bytes l))

some_words : (bytes : List ℕ) → (length bytes ≡ 0 → ⊥) → words_line bytes ≡ named_line (kind_named (before space bytes)) (drop (word_length bytes) bytes)
unfolding words_line
some_words [] n = absurd (n refl)
some_words (c ∷ cs) n = refl

module _ (bytes word left : List ℕ) (named : Option Kind) (some : length bytes ≡ 0 → ⊥) (g : named ≡ kind_named word) (u : word ≡ before space bytes)
    (l : left ≡ drop (word_length bytes) bytes) where
  words_so : (n : Option Kind) → named ≡ n → named_line n left ≡ words_line bytes
  words_so n k = ap (λ x. named_line x left) (sym k ∙ g ∙ ap kind_named u) ∙ ap (named_line (kind_named (before space bytes))) l ∙ sym (some_words bytes some)

  pub words_known : (kind : Kind) (r : Line) → named ≡ Some kind → r ≡ with_first kind (field_of kind 0 left) (after_field kind 0 left) → r ≡ words_line bytes
  unfolding named_line
  words_known kind r k h = h ∙ words_so (Some kind) k

  pub words_unknown : named ≡ None → Line.Unknown ≡ words_line bytes
  unfolding named_line
  words_unknown k = words_so None k

-- ---- and the line around it

pub content_so : (line whole : List ℕ) (m k : ℕ) → whole ≡ take (without_return line) line → m ≡ up_to hash whole → k ≡ spaces_of (take m whole)
    → rest k (take m whole) ≡ trimmed (content_of line)
content_so line whole m k e f g =
    rest_is k (take m whole) ∙ ap (λ x. drop x (take m whole)) g ∙ ap (λ x. trimmed (take x whole)) f ∙ ap (λ x. trimmed (before hash x)) e

pub line_so : (line bytes : List ℕ) (r : Line) → r ≡ words_line bytes → bytes ≡ trimmed (content_of line) → r ≡ line_of line
unfolding line_of
line_so line bytes r h e = h ∙ ap words_line e

pub items_so : (line bytes left last : List ℕ) (k : ℕ) → bytes ≡ trimmed (content_of line) → left ≡ drop (word_length bytes) bytes → last ≡ drop (word_length left) left
    → k ≡ without_spaces last → take k last ≡ items_of line
unfolding field_length fields_of
items_so line bytes left last k b l m g =
    ap (λ x. take x last) g ∙ ap bare (m ∙ ap (λ x. drop (word_length x) x) l) ∙ ap items_after b
