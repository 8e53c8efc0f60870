-- The numbers of a record that was read are at most what they may be, so that two bytes hold a task and a use. Assumes nothing.
use mathlib.Core.Path.{◌≡◌, refl, sym, ◌∙◌}
use mathlib.Core.List.{List, [], ◌∷◌, ◌++◌}
use Prim.Native.Nat.{ℕ, zero, suc, ◌≤◌, ◌<◌}
use native.Mathlib.Omega.{arith}
use lib.Dec.{eqb, ltb}
use lib.ListN.{drop}
use borrow.Author.Tests.{eqb-true, ne_eqb}
use Rattle.rules.specs.Numbers.Place.{at}
use Rattle.rules.specs.Numbers.Verdict.{Verdict}
use Rattle.rules.proofs.Numbers.Choice.{if_true, if_false, by_test, either}
use Rattle.texts.specs.Cut.{space, before, trimmed}
use Rattle.texts.specs.Kind.{kind_named, fields_of, most_of, part_of, record_of, has_items}
use Rattle.texts.specs.Line.{word_length, field_of, after_field, content_of, plain_line, job_said, job_line, ended, with_second, with_first, named_line, words_line, line_of, items_of, item_numbers}
use Rattle.texts.specs.Lines.{lines_of, of_part, records_of}
use Rattle.texts.specs.declared.kind.Kind.{Kind}
use Rattle.std.specs.Prelude.{Option, Some, None, Result, Ok, Err}
use Rattle.texts.specs.declared.number.Mistake.{Mistake}
use Rattle.texts.specs.declared.line.Line.{Line}
use Rattle.texts.proofs.Values.{number_within}

-- two bytes hold a task and a use
abbrev Fits : ℕ → ℕ → Type 0
Fits part w = (part ≡ 0 → w < 65536) × (part ≡ 2 → w < 65536)

-- what a line says does so
Kept : Line → Type 0
Kept Line.Blank = Unit
Kept (Line.Record part w) = Fits part w
Kept (Line.Job w n) = Unit
Kept Line.Unknown = Unit
Kept (Line.Wrong kind word m) = Unit
Kept (Line.Refused why place) = Unit

-- a number is at most what it may be
field_most : (kind : Kind) (w v : ℕ) (bytes : List ℕ) → field_of kind w bytes ≡ Ok v → v ≤ most_of kind w
unfolding field_of
field_most kind w v bytes e = by_test (ltb w (fields_of kind))
    (λ t. number_within (most_of kind w) (before space bytes) v (sym (if_true (ltb w (fields_of kind)) _ _ t) ∙ e))
    (λ t. let g : Ok 0 ≡ Ok v = sym (if_false (ltb w (fields_of kind)) _ _ t) ∙ e in let z : 0 ≡ v = cc in omega arith)

record_fits : (kind : Kind) (a b : ℕ) → a ≤ most_of kind 0 → b ≤ most_of kind 1 → Fits (part_of kind) (record_of kind a b)
unfolding most_of part_of record_of
record_fits Kind.Task a b h g = (λ e. omega arith, λ e. omega arith)
record_fits Kind.Lock a b h g = (λ e. absurd (omega arith), λ e. absurd (omega arith))
record_fits Kind.Use a b h g = (λ e. omega arith, λ e. omega arith)
record_fits Kind.Release a b h g = (λ e. absurd (omega arith), λ e. absurd (omega arith))
record_fits Kind.Acquire a b h g = (λ e. absurd (omega arith), λ e. absurd (omega arith))
record_fits Kind.Unlock a b h g = (λ e. absurd (omega arith), λ e. absurd (omega arith))
record_fits Kind.Work a b h g = (λ e. absurd (omega arith), λ e. absurd (omega arith))
record_fits Kind.Finish a b h g = (λ e. absurd (omega arith), λ e. absurd (omega arith))
record_fits Kind.Tick a b h g = (λ e. absurd (omega arith), λ e. absurd (omega arith))
record_fits Kind.Job a b h g = (λ e. absurd (omega arith), λ e. absurd (omega arith))

plain_kept : (kind : Kind) (a b : ℕ) (bytes : List ℕ) → a ≤ most_of kind 0 → b ≤ most_of kind 1 → Kept (plain_line kind a b bytes)
unfolding plain_line Kept
plain_kept kind a b [] h g = record_fits kind a b h g
plain_kept kind a b (c ∷ cs) h g = tt

said_kept : (w : ℕ) (v : Verdict) (events : ℕ) → Kept (job_said w v events)
unfolding job_said Kept
said_kept w (Ok _) events = tt
said_kept w (Err f) events = tt

ended_kept : (kind : Kind) (a b : ℕ) (bytes : List ℕ) → a ≤ most_of kind 0 → b ≤ most_of kind 1 → Kept (ended kind a b bytes)
unfolding ended job_line
ended_kept kind a b bytes h g = either Kept (has_items kind) _ _ (said_kept (record_of kind a b) _ _) (plain_kept kind a b bytes h g)

second_kept : (kind : Kind) (a : ℕ) (n : Result ℕ Mistake) (bytes rest : List ℕ) → n ≡ field_of kind 1 bytes → a ≤ most_of kind 0 → Kept (with_second kind a n rest)
unfolding with_second Kept
second_kept kind a (Ok b) bytes rest e h = ended_kept kind a b rest h (field_most kind 1 b bytes (sym e))
second_kept kind a (Err m) bytes rest e h = tt

first_kept : (kind : Kind) (n : Result ℕ Mistake) (bytes rest : List ℕ) → n ≡ field_of kind 0 bytes → Kept (with_first kind n rest)
unfolding with_first Kept
first_kept kind (Ok a) bytes rest e = second_kept kind a (field_of kind 1 rest) rest (after_field kind 1 rest) refl (field_most kind 0 a bytes (sym e))
first_kept kind (Err m) bytes rest e = tt

named_kept : (n : Option Kind) (rest : List ℕ) → Kept (named_line n rest)
unfolding named_line Kept
named_kept (Some kind) rest = first_kept kind (field_of kind 0 rest) rest (after_field kind 0 rest) refl
named_kept None rest = tt

words_kept : (bytes : List ℕ) → Kept (words_line bytes)
unfolding words_line Kept
words_kept [] = tt
words_kept (c ∷ cs) = named_kept (kind_named (before space (c ∷ cs))) (drop (word_length (c ∷ cs)) (c ∷ cs))

line_kept : (line : List ℕ) → Kept (line_of line)
unfolding line_of
line_kept line = words_kept (trimmed (content_of line))

-- ---- so do all records of a text

below_append : (xs ys : List ℕ) → ((i : ℕ) → at xs i < 65536) → ((i : ℕ) → at ys i < 65536) → (i : ℕ) → at (xs ++ ys) i < 65536
below_append [] ys h g i = g i
below_append (x ∷ xs) ys h g zero = h 0
below_append (x ∷ xs) ys h g (suc i) = below_append xs ys (λ j. h (suc j)) g i

one_below : (w : ℕ) → w < 65536 → (i : ℕ) → at (w ∷ []) i < 65536
one_below w l zero = l
one_below w l (suc i) = omega arith

-- of the part of the tasks, or of the uses; a job is of neither
module _ (part : ℕ) (which : (w : ℕ) → Fits part w → w < 65536) (plain : part ≡ 3 → ⊥) where
  part_below : (line : Line) (items : List ℕ) → Kept line → (i : ℕ) → at (of_part part line items) i < 65536
  unfolding of_part Kept
  part_below Line.Blank items k i = omega arith
  part_below (Line.Record p w) items k i = by_test (eqb p part)
      (λ e. rw (if_true (eqb p part) (w ∷ []) [] e) (one_below w (which w (rw (← eqb-true p part e) k)) i))
      (λ e. rw (if_false (eqb p part) (w ∷ []) [] e) (omega arith))
  part_below (Line.Job w n) items k i = rw (if_false (eqb part 3) (w ∷ item_numbers items) [] (ne_eqb part 3 plain)) (omega arith)
  part_below Line.Unknown items k i = omega arith
  part_below (Line.Wrong kind word m) items k i = omega arith
  part_below (Line.Refused why place) items k i = omega arith

  lines_below : (lines : List (List ℕ)) → (i : ℕ) → at (records_of part lines) i < 65536
  unfolding records_of
  lines_below [] i = omega arith
  lines_below (l ∷ ls) i = below_append (of_part part (line_of l) (items_of l)) (records_of part ls) (part_below (line_of l) (items_of l) (line_kept l)) (lines_below ls) i

pub tasks_below : (text : List ℕ) (i : ℕ) → at (records_of 0 (lines_of text)) i < 65536
tasks_below text i = lines_below 0 (λ w f. f.0 refl) (λ e. omega arith) (lines_of text) i

pub uses_below : (text : List ℕ) (i : ℕ) → at (records_of 2 (lines_of text)) i < 65536
uses_below text i = lines_below 2 (λ w f. f.1 refl) (λ e. omega arith) (lines_of text) i
