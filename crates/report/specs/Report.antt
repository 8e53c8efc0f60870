-- RULES 15.2 to 15.6: the text that the program prints for a replay, in bytes. Assumes nothing.
use Rattle.std.specs.Prelude.{List, [], ◌∷◌, ◌++◌, map, ℕ, zero, suc, ◌+◌, ◌*◌, eqb, Ok, Err, if◌then◌else◌}
use Rattle.rules.specs.Numbers.Verdict.{Verdict}
use Rattle.rules.specs.Numbers.Capacity.{nobody}
use Rattle.rules.specs.Numbers.Place.{at}
use Rattle.rules.specs.Numbers.Refusal.{number_of}
use Rattle.rules.specs.declared.refusal.Refusal.{Refusal}
use Rattle.page.specs.Decimal.{digits}

-- ---- the words of the report, in ASCII

abbrev pub newline : ℕ
newline = 10

abbrev pub space : ℕ
space = 32

-- `-`
abbrev pub dash : List ℕ
dash = 45 ∷ []

-- `event`
abbrev pub event : List ℕ
event = 101 ∷ 118 ∷ 101 ∷ 110 ∷ 116 ∷ []

-- `running`
abbrev pub running : List ℕ
running = 114 ∷ 117 ∷ 110 ∷ 110 ∷ 105 ∷ 110 ∷ 103 ∷ []

-- `user`
abbrev pub user : List ℕ
user = 117 ∷ 115 ∷ 101 ∷ 114 ∷ []

-- `next`
abbrev pub next : List ℕ
next = 110 ∷ 101 ∷ 120 ∷ 116 ∷ []

-- `call`
abbrev pub call : List ℕ
call = 99 ∷ 97 ∷ 108 ∷ 108 ∷ []

-- `calls`
abbrev pub calls : List ℕ
calls = 99 ∷ 97 ∷ 108 ∷ 108 ∷ 115 ∷ []

-- `delayed`
abbrev pub delayed : List ℕ
delayed = 100 ∷ 101 ∷ 108 ∷ 97 ∷ 121 ∷ 101 ∷ 100 ∷ []

-- `refused`
abbrev pub refused : List ℕ
refused = 114 ∷ 101 ∷ 102 ∷ 117 ∷ 115 ∷ 101 ∷ 100 ∷ []

-- ---- the lines

-- words, each with a space before it
unfoldable pub spaced : List (List ℕ) → List ℕ
spaced [] = []
spaced (w ∷ ws) = space ∷ w ++ spaced ws

-- a line: a word, and the words after it
unfoldable pub line : List ℕ → List (List ℕ) → List ℕ
line w ws = w ++ spaced ws ++ newline ∷ []

unfoldable pub header : List ℕ
header = line event (running ∷ user ∷ next ∷ call ∷ [])

-- the running task, or `-` for nobody
unfoldable pub runner : ℕ → List ℕ
runner t = if eqb t nobody then dash else digits t

-- the row of the event k: running task, user word, next word, call
unfoldable pub row_words : List ℕ → ℕ → List (List ℕ)
row_words rows k = runner (at rows (k * 4)) ∷ digits (at rows (k * 4 + 1)) ∷ digits (at rows (k * 4 + 2)) ∷ digits (at rows (k * 4 + 3)) ∷ []

-- the line of the event k: its number counts from 1
unfoldable pub row_line : List ℕ → ℕ → List ℕ
row_line rows k = line (digits (k + 1)) (row_words rows k)

-- the lines of the first n events
unfoldable pub row_lines : List ℕ → ℕ → List ℕ
row_lines rows zero = []
row_lines rows (suc k) = row_lines rows k ++ row_line rows k

unfoldable pub calls_line : ℕ → ℕ → List ℕ
calls_line lazy eager = line calls (digits lazy ∷ digits eager ∷ [])

unfoldable pub delayed_line : List ℕ → List ℕ
delayed_line delays = line delayed (map digits delays)

unfoldable pub refused_line : Refusal → ℕ → List ℕ
refused_line why place = line refused (digits (number_of why) ∷ digits place ∷ [])

-- the whole report: it ends with the calls and the delays, or with the refusal
unfoldable pub report_of : Verdict → ℕ → List ℕ → ℕ → ℕ → List ℕ → List ℕ
report_of (Ok _) accepted rows lazy eager delays = header ++ row_lines rows accepted ++ calls_line lazy eager ++ delayed_line delays
report_of (Err f) accepted rows lazy eager delays = header ++ row_lines rows accepted ++ refused_line f.why f.place
