-- RULES 19.1 to 19.4: what one line says. Assumes nothing.
use Rattle.std.specs.Prelude.{List, [], ◌∷◌, map, ℕ, ◌+◌, ◌*◌, ◌-◌, eqb, ltb, length, take, drop, Option, Some, None, Result, Ok, Err, if◌then◌else◌}
use Rattle.rules.specs.Numbers.Verdict.{Verdict}
use Rattle.rules.specs.Numbers.Capacity.{max_events}
use Rattle.rules.specs.Numbers.Place.{at}
use Rattle.rules.specs.Books.Event.{event_number}
use Rattle.jobs.specs.Job.{job_events, job_answer}
use Rattle.texts.specs.Cut.{return, space, hash, up_to, before, spaces_of, trimmed, bare}
use Rattle.texts.specs.Kind.{kind_named, fields_of, most_of, part_of, record_of, has_items}
use Rattle.texts.specs.Number.{number_of}
use Rattle.texts.specs.declared.kind.Kind.{Kind}
use Rattle.texts.specs.declared.number.Mistake.{Mistake}
use Rattle.texts.specs.declared.line.Line.{Line}

-- ---- its bytes

-- how many bytes it has without a carriage return at its end
unfoldable pub without_return : List ℕ → ℕ
without_return line = if eqb (length line) 0 then 0 else if eqb (at line (length line - 1)) return then length line - 1 else length line

-- what stands before a comment
abbrev pub content_of : List ℕ → List ℕ
content_of line = before hash (take (without_return line) line)

-- how many bytes the first word has, with the spaces after it
unfoldable pub word_length : List ℕ → ℕ
word_length bytes = up_to space bytes + spaces_of (drop (up_to space bytes) bytes)

-- ---- its words

-- number w of a record, where the bytes start with its word; a record that has no such number takes 0, and no byte
unfoldable pub field_of : Kind → ℕ → List ℕ → Result ℕ Mistake
field_of kind w bytes = if ltb w (fields_of kind) then number_of (most_of kind w) (before space bytes) else Ok 0

unfoldable pub field_length : Kind → ℕ → List ℕ → ℕ
field_length kind w bytes = if ltb w (fields_of kind) then word_length bytes else 0

abbrev pub after_field : Kind → ℕ → List ℕ → List ℕ
after_field kind w bytes = drop (field_length kind w bytes) bytes

-- after the numbers of a record nothing may stand
unfoldable pub plain_line : Kind → ℕ → ℕ → List ℕ → Line
plain_line kind a b [] = Line.Record (part_of kind) (record_of kind a b)
plain_line kind a b (c ∷ cs) = Line.Wrong kind (fields_of kind + 2) Mistake.TooMany

-- after that of a job its items do, with room for all events of a book; the record w is its release, which counts among its records
abbrev pub job_room : ℕ
job_room = max_events * 4

unfoldable pub job_said : ℕ → Verdict → ℕ → Line
job_said w (Ok _) events = Line.Job w (events + 1)
job_said w (Err f) events = Line.Refused f.why f.place

unfoldable pub job_line : ℕ → List ℕ → Line
job_line w items = job_said w (job_answer items job_room).verdict (job_answer items job_room).events

-- what comes after the numbers, by the kind
unfoldable pub ended : Kind → ℕ → ℕ → List ℕ → Line
ended kind a b bytes = if has_items kind then job_line (record_of kind a b) (bare bytes) else plain_line kind a b bytes

-- its second number, and its first: the words 3 and 2 of the line
unfoldable pub with_second : Kind → ℕ → Result ℕ Mistake → List ℕ → Line
with_second kind a (Ok b) rest = ended kind a b rest
with_second kind a (Err m) rest = Line.Wrong kind 3 m

unfoldable pub with_first : Kind → Result ℕ Mistake → List ℕ → Line
with_first kind (Ok a) rest = with_second kind a (field_of kind 1 rest) (after_field kind 1 rest)
with_first kind (Err m) rest = Line.Wrong kind 2 m

-- its name
unfoldable pub named_line : Option Kind → List ℕ → Line
named_line (Some kind) rest = with_first kind (field_of kind 0 rest) (after_field kind 0 rest)
named_line None rest = Line.Unknown

-- of bytes that start with a word, or are none
unfoldable pub words_line : List ℕ → Line
words_line [] = Line.Blank
words_line (c ∷ cs) = named_line (kind_named (before space (c ∷ cs))) (drop (word_length (c ∷ cs)) (c ∷ cs))

unfoldable pub line_of : List ℕ → Line
line_of line = words_line (trimmed (content_of line))

-- ---- its job

-- the items in a line that is a job: what stands after the name and the task's number
abbrev pub items_after : List ℕ → List ℕ
items_after words = bare (after_field Kind.Job 0 (drop (word_length words) words))

abbrev pub items_of : List ℕ → List ℕ
items_of line = items_after (trimmed (content_of line))

-- their events as numbers
unfoldable pub item_numbers : List ℕ → List ℕ
item_numbers items = map event_number (job_events items job_room)
