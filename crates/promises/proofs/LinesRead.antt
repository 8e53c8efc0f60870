-- What the reader of a text makes of a line that is shown. Assumes nothing.
use mathlib.Core.Path.{◌≡◌, refl, sym, ◌∙◌, ap}
use mathlib.Core.Bool.{Bool, true, false, not, ◌&&◌}
use mathlib.Core.List.{List, [], ◌∷◌, ◌++◌, map, append_assoc}
use Prim.Native.Nat.{ℕ, suc, ◌+◌, ◌-◌, ◌≤◌, ◌<◌}
use native.Mathlib.Omega.{arith}
use lib.Dec.{eqb, ltb}
use lib.ListN.{length, take, drop, length-append}
use lib.Seq.{take-append_seam, drop-append_seam, drop-append-add, take-length}
use borrow.Author.Tests.{lt-ltb, le-ltb, ne_eqb, eqb-true, not-true}
use Rattle.rules.specs.Numbers.Place.{at}
use Rattle.rules.proofs.Numbers.Choice.{if_true, if_false, and_true, untrue, by_test}
use Rattle.page.specs.Decimal.{digits}
use Rattle.texts.specs.Cut.{newline, return, space, hash, until, up_to, spaces_of, before, trimmed}
use Rattle.texts.specs.Kind.{kind_named, fields_of, most_of, part_of, record_of, has_items}
use Rattle.texts.specs.Number.{number_of, value_of, digital}
use Rattle.texts.specs.Line.{without_return, content_of, word_length, field_of, field_length, after_field, plain_line, ended, with_second, with_first, named_line, words_line, line_of}
use Rattle.texts.specs.Lines.{longer, lines_of, read_lines}
use Rattle.texts.specs.declared.kind.Kind.{Kind}
use Rattle.std.specs.Prelude.{Some, Ok}
use Rattle.texts.specs.declared.line.Line.{Line}
use Rattle.promises.proofs.Digits.{all, all_append, all_cons, until_there, until_now, digits_some, digits_all, digit_not, digits_digital, digits_value}

-- ---- the bytes of a line

-- neither newline nor carriage return; no hash; no space
abbrev pub quiet : ℕ → Bool
quiet c = not (eqb c newline) && not (eqb c return)

abbrev pub bare : ℕ → Bool
bare c = not (eqb c hash)

abbrev pub solid : ℕ → Bool
solid c = not (eqb c space)

-- digits are all of that
pub digits_quiet : (n : ℕ) → all quiet (digits n) ≡ true
digits_quiet n = digits_all quiet (λ d l. both (digit_not newline d (omega arith)) (digit_not return d (omega arith))) n
  where
    both : {a b : Bool} → a ≡ true → b ≡ true → (a && b) ≡ true
    both h g = rw (h, g)

pub digits_bare : (n : ℕ) → all bare (digits n) ≡ true
digits_bare n = digits_all bare (λ d l. digit_not hash d (omega arith)) n

pub digits_solid : (n : ℕ) → all solid (digits n) ≡ true
digits_solid n = digits_all solid (λ d l. digit_not space d (omega arith)) n

-- a text that starts with digits, or is empty, starts with no space
pub digits_trim : (n : ℕ) (ys : List ℕ) → spaces_of (digits n ++ ys) ≡ 0
unfolding spaces_of
digits_trim n ys = until_now (λ c. not (eqb c space)) (digits n) ys (digits_some n) (digits_solid n)

nothing_trim : spaces_of [] ≡ 0
unfolding spaces_of until
nothing_trim = refl

-- ---- one line, and those after it

line_first : (w rest : List ℕ) → all quiet w ≡ true → lines_of ((w ++ newline ∷ []) ++ rest) ≡ w ∷ lines_of rest
unfolding all lines_of longer
line_first [] rest h = refl
line_first (c ∷ w) rest h =
    let (a, b) = and_true (quiet c) (all quiet w) h in
    if_false (eqb c newline) _ _ (not-true (eqb c newline) (and_true (not (eqb c newline)) (not (eqb c return)) a).0) ∙ ap (longer c) (line_first w rest b)

-- a text that reads as these lines, whatever comes after it
abbrev pub Reads : List ℕ → List Line → Type 0
Reads t ls = (rest : List ℕ) → read_lines (t ++ rest) ≡ ls ++ read_lines rest

pub reads_none : Reads [] []
reads_none rest = refl

pub reads_two : (s t : List ℕ) (ls ms : List Line) → Reads s ls → Reads t ms → Reads (s ++ t) (ls ++ ms)
reads_two s t ls ms h g rest =
    ap read_lines (append_assoc s t rest) ∙ h (t ++ rest) ∙ ap (λ x. ls ++ x) (g rest) ∙ sym (append_assoc ls ms (read_lines rest))

pub reads_line : (w : List ℕ) → all quiet w ≡ true → Reads (w ++ newline ∷ []) (line_of w ∷ [])
reads_line w h rest = ap (map line_of) (line_first w rest h)

-- ---- a line without a carriage return

last_quiet : (w : List ℕ) → all quiet w ≡ true → 0 < length w → not (eqb (at w (length w - 1)) return) ≡ true
unfolding all
last_quiet [] h l = absurd (omega arith)
last_quiet (c ∷ []) h l = (and_true (not (eqb c newline)) (not (eqb c return)) (and_true (quiet c) true h).0).1
last_quiet (c ∷ d ∷ w) h l =
    let e : length (c ∷ d ∷ w) - 1 ≡ suc (length (d ∷ w) - 1) = omega arith in
    ap (λ k. not (eqb (at (c ∷ d ∷ w) k) return)) e ∙ last_quiet (d ∷ w) (and_true (quiet c) (all quiet (d ∷ w)) h).1 (omega arith)

whole : (w : List ℕ) → all quiet w ≡ true → take (without_return w) w ≡ w
unfolding without_return
whole w h = by_test (eqb (length w) 0)
    (λ e. ap (λ k. take k w) (if_true (eqb (length w) 0) 0 _ e) ∙ sym (empty w (eqb-true (length w) 0 e)))
    (λ e. ap (λ k. take k w) (if_false (eqb (length w) 0) 0 _ e
    ∙ if_false (eqb (at w (length w - 1)) return) (length w - 1) (length w) (not-true (eqb (at w (length w - 1)) return) (last_quiet w h (some w e))))
    ∙ take-length w)
  where
    empty : (w : List ℕ) → length w ≡ 0 → w ≡ []
    empty [] e = refl
    empty (c ∷ cs) e = absurd (omega arith)

    some : (w : List ℕ) → eqb (length w) 0 ≡ false → 0 < length w
    some [] e = untrue e
    some (c ∷ cs) e = omega arith

-- a comment alone
pub comment_blank : (y : List ℕ) → all quiet (hash ∷ y) ≡ true → line_of (hash ∷ y) ≡ Line.Blank
unfolding line_of words_line up_to until spaces_of
comment_blank y h = ap (λ w. words_line (trimmed (before hash w))) (whole (hash ∷ y) h)

-- ---- a record's line: its name, a space, its numbers, and a comment

module _ (name xs y : List ℕ) where
  abbrev line : List ℕ
  line = name ++ space ∷ (xs ++ hash ∷ y)

  module _ (q : all quiet line ≡ true) (some : 0 < length name) (nb : all bare name ≡ true) (ns : all solid name ≡ true) (xb : all bare xs ≡ true)
      (xt : spaces_of xs ≡ 0) where
    abbrev words : List ℕ
    words = name ++ space ∷ xs

    content : content_of line ≡ words
    unfolding up_to
    content = ap (before hash) (whole line q)
        ∙ ap (before hash) (sym (append_assoc name (space ∷ xs) (hash ∷ y)))
        ∙ ap (λ k. take k (words ++ hash ∷ y)) (until_there (λ c. eqb c hash) words hash y (all_append bare name (space ∷ xs) nb (all_cons bare space xs refl xb)) refl)
        ∙ take-append_seam words (hash ∷ y)

    trims : spaces_of words ≡ 0
    unfolding spaces_of
    trims = until_now (λ c. not (eqb c space)) name (space ∷ xs) some ns

    up_to_lem : up_to space words ≡ length name
    unfolding up_to
    up_to_lem = until_there (λ c. eqb c space) name space xs ns refl

    one_space : spaces_of (space ∷ xs) ≡ 1
    unfolding spaces_of until
    one_space = ap suc xt

    passed : drop (word_length words) words ≡ xs
    unfolding word_length
    passed = ap (λ k. drop (k + spaces_of (drop k words)) words) up_to_lem
        ∙ ap (λ t. drop (length name + spaces_of t) words) (drop-append_seam name (space ∷ xs))
        ∙ ap (λ k. drop (length name + k) words) one_space
        ∙ drop-append-add name (space ∷ xs) 1

    named : before space words ≡ name
    named = ap (λ k. take k words) up_to_lem ∙ take-append_seam name (space ∷ xs)

    some_words : (bytes : List ℕ) → 0 < length bytes → words_line bytes ≡ named_line (kind_named (before space bytes)) (drop (word_length bytes) bytes)
    unfolding words_line
    some_words [] l = absurd (omega arith)
    some_words (c ∷ cs) l = refl

    pub record_line : line_of line ≡ named_line (kind_named name) xs
    unfolding line_of
    record_line = ap (λ w. words_line (trimmed w)) content ∙ ap (λ k. words_line (drop k words)) trims
        ∙ some_words words (omega (arith, length-append name (space ∷ xs)))
        ∙ ap (λ n. named_line (kind_named n) (drop (word_length words) words)) named ∙ ap (named_line (kind_named name)) passed

-- ---- its numbers

number_read : (most v : ℕ) → v ≤ most → v < 65536 → number_of most (digits v) ≡ Ok v
unfolding number_of
number_read most v l s =
    if_false (eqb (length (digits v)) 0) _ _ (ne_eqb (length (digits v)) 0 (λ e. omega (arith, e, digits_some v)))
    ∙ if_true (digital (digits v)) _ _ (digits_digital v)
    ∙ if_false (ltb most (value_of 0 (digits v))) _ _ (le-ltb most (value_of 0 (digits v)) (omega (arith, digits_value v s)))
    ∙ ap Ok (digits_value v s)

module _ (kind : Kind) (w v : ℕ) (more : List ℕ) (has : w < fields_of kind) (l : v ≤ most_of kind w) (s : v < 65536) (t : spaces_of more ≡ 0) where
  abbrev bytes : List ℕ
  bytes = digits v ++ space ∷ more

  ends : up_to space bytes ≡ length (digits v)
  unfolding up_to
  ends = until_there (λ c. eqb c space) (digits v) space more (digits_solid v) refl

  pub field_read : field_of kind w bytes ≡ Ok v
  unfolding field_of
  field_read = if_true (ltb w (fields_of kind)) _ _ (lt-ltb w (fields_of kind) has)
      ∙ ap (number_of (most_of kind w)) (ap (λ k. take k bytes) ends ∙ take-append_seam (digits v) (space ∷ more)) ∙ number_read (most_of kind w) v l s

  spaced : spaces_of (space ∷ more) ≡ 1
  unfolding spaces_of until
  spaced = ap suc t

  pub field_after : after_field kind w bytes ≡ more
  unfolding field_length word_length
  field_after = ap (λ k. drop k bytes) (if_true (ltb w (fields_of kind)) _ _ (lt-ltb w (fields_of kind) has))
      ∙ ap (λ k. drop (k + spaces_of (drop k bytes)) bytes) ends
      ∙ ap (λ x. drop (length (digits v) + spaces_of x) bytes) (drop-append_seam (digits v) (space ∷ more))
      ∙ ap (λ k. drop (length (digits v) + k) bytes) spaced ∙ drop-append-add (digits v) (space ∷ more) 1

-- a record that has no such number
module _ (kind : Kind) (w : ℕ) (more : List ℕ) (not_so : fields_of kind ≤ w) where
  no_field : field_of kind w more ≡ Ok 0
  unfolding field_of
  no_field = if_false (ltb w (fields_of kind)) _ _ (le-ltb w (fields_of kind) not_so)

  no_after : after_field kind w more ≡ more
  unfolding field_length
  no_after = ap (λ k. drop k more) (if_false (ltb w (fields_of kind)) _ _ (le-ltb w (fields_of kind) not_so))

-- a record that is no job ends with its numbers
nothing_more : (kind : Kind) (a b : ℕ) → has_items kind ≡ false → ended kind a b [] ≡ Line.Record (part_of kind) (record_of kind a b)
unfolding ended plain_line
nothing_more kind a b z = if_false (has_items kind) _ _ z

pub two_read : (kind : Kind) (a b : ℕ) → has_items kind ≡ false → fields_of kind ≡ 2 → a ≤ most_of kind 0 → b ≤ most_of kind 1 → a < 65536 → b < 65536
    → named_line (Some kind) (digits a ++ space ∷ (digits b ++ space ∷ [])) ≡ Line.Record (part_of kind) (record_of kind a b)
unfolding named_line with_first with_second
two_read kind a b z e ha hb sa sb =
    let more : List ℕ = digits b ++ space ∷ [] in
    ap (λ n. with_first kind n (after_field kind 0 (digits a ++ space ∷ more))) (field_read kind 0 a more (omega (arith, e)) ha sa (digits_trim b (space ∷ [])))
    ∙ ap (λ r. with_second kind a (field_of kind 1 r) (after_field kind 1 r)) (field_after kind 0 a more (omega (arith, e)) ha sa (digits_trim b (space ∷ [])))
    ∙ ap (λ n. with_second kind a n (after_field kind 1 more)) (field_read kind 1 b [] (omega (arith, e)) hb sb nothing_trim)
    ∙ ap (ended kind a b) (field_after kind 1 b [] (omega (arith, e)) hb sb nothing_trim) ∙ nothing_more kind a b z

pub one_read : (kind : Kind) (a : ℕ) → has_items kind ≡ false → fields_of kind ≡ 1 → a ≤ most_of kind 0 → a < 65536
    → named_line (Some kind) (digits a ++ space ∷ []) ≡ Line.Record (part_of kind) (record_of kind a 0)
unfolding named_line with_first with_second
one_read kind a z e ha sa =
    ap (λ n. with_first kind n (after_field kind 0 (digits a ++ space ∷ []))) (field_read kind 0 a [] (omega (arith, e)) ha sa nothing_trim)
    ∙ ap (λ r. with_second kind a (field_of kind 1 r) (after_field kind 1 r)) (field_after kind 0 a [] (omega (arith, e)) ha sa nothing_trim)
    ∙ ap (λ n. with_second kind a n (after_field kind 1 [])) (no_field kind 1 [] (omega (arith, e)))
    ∙ ap (ended kind a 0) (no_after kind 1 [] (omega (arith, e))) ∙ nothing_more kind a 0 z

pub none_read : (kind : Kind) → has_items kind ≡ false → fields_of kind ≡ 0 → named_line (Some kind) [] ≡ Line.Record (part_of kind) (record_of kind 0 0)
unfolding named_line with_first with_second
none_read kind z e =
    ap (λ n. with_first kind n (after_field kind 0 [])) (no_field kind 0 [] (omega (arith, e)))
    ∙ ap (λ r. with_second kind 0 (field_of kind 1 r) (after_field kind 1 r)) (no_after kind 0 [] (omega (arith, e)))
    ∙ ap (λ n. with_second kind 0 n (after_field kind 1 [])) (no_field kind 1 [] (omega (arith, e)))
    ∙ ap (ended kind 0 0) (no_after kind 1 [] (omega (arith, e))) ∙ nothing_more kind 0 0 z
