-- RULES 15.1: what the program writes for the bytes on its standard input: the report of the replay of that book, by the protocol that is asked for.
-- Assumes nothing.
use Rattle.std.specs.Prelude.{List, ℕ, take}
use Rattle.rules.specs.Books.Book.{checked_of}
use Rattle.rules.specs.declared.protocol.Protocol.{Protocol}
use Rattle.rules.specs.declared.answer.Replayed.{Replayed}
use Rattle.report.specs.Report.{report_of}
use Rattle.office.specs.Ran.{row_space, ran_of}

-- RULES 15.7: as much of an input as the program reads: its buffer, `io::large_buffer`
abbrev pub input_space : ℕ
input_space = 65_536

-- room for every text
abbrev pub report_space : ℕ
report_space = 262_144

-- what a replay answered and left in the rows, reported
abbrev pub reported : Replayed → List ℕ → List ℕ
reported r rows =
    report_of r.verdict r.state.head.accepted rows r.state.head.lazy r.state.head.eager (take r.plan.tasks r.state.delay)

abbrev pub text_of : Protocol → List ℕ → List ℕ
text_of pr b =
    report_of (ran_of pr b).verdict (ran_of pr b).state.head.accepted (ran_of pr b).rows (ran_of pr b).state.head.lazy (ran_of pr b).state.head.eager
    (take (checked_of b row_space).plan.tasks (ran_of pr b).state.delay)
