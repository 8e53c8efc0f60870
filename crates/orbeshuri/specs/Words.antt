-- RULES 15.1, 19.9: the words that the program is started with. Assumes nothing.
use Rattle.std.specs.Prelude.{List, ℕ, true, false, eqb, leb, Option, Some, None, if◌then◌else◌}
use Rattle.rules.specs.declared.protocol.Protocol.{Protocol}
use Rattle.rules.specs.declared.protocol.Protocol.TheVariants.{Second, First}
use Rattle.page.specs.Ascii.{ascii}
use Rattle.texts.specs.Cut.{same}
use Rattle.orbeshuri.specs.declared.words.Asked.{Asked}

-- a report by the protocol, and a report with its words
abbrev pub report_by : Protocol → Asked
report_by pr = record { protocol = pr; explained = false }

abbrev pub words_by : Protocol → Asked
words_by pr = record { protocol = pr; explained = true }

-- one word after the program's own name, and two; none where they ask for nothing
unfoldable pub by_one : List ℕ → Option Asked
by_one word = if same word (ascii "first") then Some (report_by First) else if same word (ascii "explain") then Some (words_by Second) else None

unfoldable pub by_two : List ℕ → List ℕ → Option Asked
by_two one two = if same one (ascii "first") then (if same two (ascii "explain") then Some (words_by First) else None) else None

-- by how many words there are, the program's own name among them
unfoldable pub asked_by : ℕ → List ℕ → List ℕ → Option Asked
asked_by count one two =
    if leb count 1 then Some (report_by Second) else if eqb count 2 then by_one one else if eqb count 3 then by_two one two else None
