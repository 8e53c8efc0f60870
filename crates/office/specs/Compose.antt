-- RULES 19.5: the book of a text, or the line that says why there is none. Assumes nothing.
use Rattle.std.specs.Prelude.{List, [], ◌∷◌, ℕ, Option, Some, None, eqb, ltb, length, Ok, Err, if◌then◌else◌}
use Rattle.rules.specs.Numbers.Verdict.{Verdict}
use Rattle.rules.specs.Numbers.Refusal.{number_of}
use Rattle.rules.specs.Books.Plan.{most}
use Rattle.rules.specs.Books.Write.{Wrote, write_of}
use Rattle.rules.specs.declared.refusal.Refusal.{Refusal}
use Rattle.page.specs.Says.{says}
use Rattle.texts.specs.Lines.{lines_of, read_lines, records_of, first_wrong, line_of_record}
use Rattle.texts.specs.declared.line.Line.{Line}
use Rattle.wording.specs.Mistakes.{mistake_of, refusal_words, refusal_at_line}

-- the most bytes that a text may have
abbrev pub text_space : ℕ
text_space = 1_048_576

-- the length of the book, 0 where there is none; the buffer after it was written; and the line that says why there is none
pub record Composed : Type 0 where
  pub length : ℕ
  pub bytes : List ℕ
  pub said : List ℕ

-- no book, and the buffer as it was
abbrev pub unwritten : List ℕ → List ℕ → Composed
unwritten buffer said = record { length = 0; bytes = buffer; said = said }

-- the part that an entry of the contents belongs to; the entries count from 1
unfoldable pub entry_part : ℕ → ℕ
entry_part e = if eqb e 1 then 0 else if eqb e 2 then 1 else if eqb e 3 then 2 else 3

-- the part and the record that a refusal names: for 2 the first record that is too many
unfoldable pub refused_part : ℕ → ℕ → ℕ
refused_part number place =
    if eqb number 2 then entry_part place
    else if eqb number 4 then 0
    else if eqb number 5 then 1
    else if eqb number 7 then 1
    else if eqb number 8 then 3
    else 2

unfoldable pub refused_record : ℕ → ℕ → ℕ
refused_record number place = if eqb number 2 then most (entry_part place) else place

-- a refusal, with a line where one can be named; and with the line of that record
unfoldable pub refused_at : ℕ → Refusal → ℕ → List ℕ
refused_at n why place = if eqb n 0 then refusal_words why place else refusal_at_line why place n

unfoldable pub refused_by : List Line → Refusal → ℕ → List ℕ
refused_by lines why place = refused_at (line_of_record (refused_part (number_of why) place) (refused_record (number_of why) place) 0 lines) why place

-- the records of a text's lines as their writer leaves them
abbrev pub written : List (List ℕ) → List ℕ → Wrote
written lines buffer = write_of (records_of 0 lines) (records_of 1 lines) (records_of 2 lines) (records_of 3 lines) buffer

unfoldable pub composed_as : Verdict → List Line → Wrote → Composed
composed_as (Ok _) lines w = record { length = w.length; bytes = w.bytes; said = [] }
composed_as (Err f) lines w = record { length = 0; bytes = w.bytes; said = refused_by lines f.why f.place }

-- a text without a mistake, and with one
unfoldable pub composed_records : List ℕ → List ℕ → Composed
composed_records text buffer = composed_as (written (lines_of text) buffer).verdict (read_lines text) (written (lines_of text) buffer)

unfoldable pub composed_by : Option (ℕ × Line) → List ℕ → List ℕ → Composed
composed_by None text buffer = composed_records text buffer
composed_by (Some (n, line)) text buffer = unwritten buffer (mistake_of n line)

-- a text that is too long
unfoldable pub too_long : List ℕ
too_long = says "the text has more than @ bytes\n" (text_space ∷ [])

unfoldable pub compose_of : List ℕ → List ℕ → Composed
compose_of text buffer =
    if ltb text_space (length text) then unwritten buffer too_long else composed_by (first_wrong 0 (read_lines text)) text buffer
