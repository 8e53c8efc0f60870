-- RULES 19.1, 19.3, 19.4: the lines of a text, the records of each part, the first line with a mistake, and the line of a record. Assumes nothing.
use Rattle.std.specs.Prelude.{Bool, true, false, List, [], ◌∷◌, ◌++◌, map, ℕ, suc, ◌-◌, Option, Some, None, eqb, ltb, if◌then◌else◌}
use Rattle.texts.specs.Cut.{newline}
use Rattle.texts.specs.Line.{line_of, items_of, item_numbers}
use Rattle.texts.specs.declared.line.Line.{Line}

-- a byte more at the front of the first line
unfoldable pub longer : ℕ → List (List ℕ) → List (List ℕ)
longer c [] = (c ∷ []) ∷ []
longer c (l ∷ ls) = (c ∷ l) ∷ ls

-- a line ends with a newline, or with the text
unfoldable pub lines_of : List ℕ → List (List ℕ)
lines_of [] = []
lines_of (c ∷ cs) = if eqb c newline then [] ∷ lines_of cs else longer c (lines_of cs)

-- what each of them says
abbrev pub read_lines : List ℕ → List Line
read_lines text = map line_of (lines_of text)

-- the records of this part that a line says, as numbers: one, or those of a job; these are its items
unfoldable pub of_part : ℕ → Line → (items : List ℕ) → List ℕ
of_part part Line.Blank items = []
of_part part (Line.Record p w) items = if eqb p part then w ∷ [] else []
of_part part (Line.Job w n) items = if eqb part 3 then w ∷ item_numbers items else []
of_part part Line.Unknown items = []
of_part part (Line.Wrong kind word m) items = []
of_part part (Line.Refused why place) items = []

-- the records of a part that these lines say, in order
unfoldable pub records_of : ℕ → List (List ℕ) → List ℕ
records_of part [] = []
records_of part (l ∷ ls) = of_part part (line_of l) (items_of l) ++ records_of part ls

-- a line is neither blank, a record nor a job
unfoldable pub is_wrong : Line → Bool
is_wrong Line.Blank = false
is_wrong (Line.Record p w) = false
is_wrong (Line.Job w n) = false
is_wrong Line.Unknown = true
is_wrong (Line.Wrong kind word m) = true
is_wrong (Line.Refused why place) = true

-- the first of them, and its number, where n lines stand before these
unfoldable pub first_wrong : ℕ → List Line → Option (ℕ × Line)
first_wrong n [] = None
first_wrong n (l ∷ ls) = if is_wrong l then Some (suc n, l) else first_wrong (suc n) ls

-- how many records of this part a line says
unfoldable pub count_in : ℕ → Line → ℕ
count_in part Line.Blank = 0
count_in part (Line.Record p w) = if eqb p part then 1 else 0
count_in part (Line.Job w n) = if eqb part 3 then n else 0
count_in part Line.Unknown = 0
count_in part (Line.Wrong kind word m) = 0
count_in part (Line.Refused why place) = 0

-- the number of the line of record k of a part, where n lines stand before these; 0 where there are not so many
unfoldable pub line_of_record : ℕ → ℕ → ℕ → List Line → ℕ
line_of_record part k n [] = 0
line_of_record part k n (l ∷ ls) = if ltb k (count_in part l) then suc n else line_of_record part (k - count_in part l) (suc n) ls
