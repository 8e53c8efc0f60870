-- RULES 18.2, 18.3, 18.7: the report of P1, by both protocols, and that of P5, which ends with its refusal, as one claim. Assumes nothing.
use Rattle.std.specs.Prelude.{Bool, true, false, ◌&&◌, List, [], ◌∷◌, ℕ, T, eqb, Ok}
use Rattle.rules.specs.Numbers.Verdict.{refused_at}
use Rattle.rules.specs.Numbers.Refusal.{number_of}
use Rattle.rules.specs.declared.refusal.Refusal.TheVariants.{PastLimit}
use Rattle.page.specs.Decimal.{digits_in, digits}
use Rattle.report.specs.Report.{spaced, line, header, runner, row_words}
use Rattle.report.specs.Report.{row_line, row_lines, calls_line, delayed_line, refused_line, report_of}

same : List ℕ → List ℕ → Bool
same [] [] = true
same [] (y ∷ ys) = false
same (x ∷ xs) [] = false
same (x ∷ xs) (y ∷ ys) = eqb x y && same xs ys

-- the row bytes of P1
rows : List ℕ
rows = 0 ∷ 1 ∷ 0 ∷ 0 ∷ 0 ∷ 5 ∷ 0 ∷ 0 ∷ 0 ∷ 5 ∷ 3 ∷ 0 ∷ 0 ∷ 5 ∷ 3 ∷ 0 ∷ 1 ∷ 3 ∷ 1 ∷ 1 ∷ 0 ∷ 1 ∷ 0 ∷ 0 ∷ 255 ∷ 0 ∷ 0 ∷ 0 ∷ []

unfoldable pub block : List ℕ
block =
    -- event running user next call
    101 ∷ 118 ∷ 101 ∷ 110 ∷ 116 ∷ 32 ∷ 114 ∷ 117 ∷ 110 ∷ 110 ∷ 105 ∷ 110 ∷ 103 ∷ 32 ∷ 117 ∷ 115 ∷ 101 ∷ 114 ∷ 32 ∷ 110 ∷ 101 ∷ 120 ∷ 116 ∷ 32 ∷ 99 ∷ 97 ∷ 108
    ∷ 108 ∷ 10
    -- 1 0 1 0 0
    ∷ 49 ∷ 32 ∷ 48 ∷ 32 ∷ 49 ∷ 32 ∷ 48 ∷ 32 ∷ 48 ∷ 10
    -- 2 0 5 0 0
    ∷ 50 ∷ 32 ∷ 48 ∷ 32 ∷ 53 ∷ 32 ∷ 48 ∷ 32 ∷ 48 ∷ 10
    -- 3 0 5 3 0
    ∷ 51 ∷ 32 ∷ 48 ∷ 32 ∷ 53 ∷ 32 ∷ 51 ∷ 32 ∷ 48 ∷ 10
    -- 4 0 5 3 0
    ∷ 52 ∷ 32 ∷ 48 ∷ 32 ∷ 53 ∷ 32 ∷ 51 ∷ 32 ∷ 48 ∷ 10
    -- 5 1 3 1 1
    ∷ 53 ∷ 32 ∷ 49 ∷ 32 ∷ 51 ∷ 32 ∷ 49 ∷ 32 ∷ 49 ∷ 10
    -- 6 0 1 0 0
    ∷ 54 ∷ 32 ∷ 48 ∷ 32 ∷ 49 ∷ 32 ∷ 48 ∷ 32 ∷ 48 ∷ 10
    -- 7 - 0 0 0
    ∷ 55 ∷ 32 ∷ 45 ∷ 32 ∷ 48 ∷ 32 ∷ 48 ∷ 32 ∷ 48 ∷ 10
    -- calls 1 2
    ∷ 99 ∷ 97 ∷ 108 ∷ 108 ∷ 115 ∷ 32 ∷ 49 ∷ 32 ∷ 50 ∷ 10
    -- delayed 0 2 0 0
    ∷ 100 ∷ 101 ∷ 108 ∷ 97 ∷ 121 ∷ 101 ∷ 100 ∷ 32 ∷ 48 ∷ 32 ∷ 50 ∷ 32 ∷ 48 ∷ 32 ∷ 48 ∷ 10
    ∷ []

-- P1 by the first protocol: its row bytes, and its report
rows_by_first : List ℕ
rows_by_first = 0 ∷ 1 ∷ 1 ∷ 0 ∷ 0 ∷ 5 ∷ 1 ∷ 0 ∷ 0 ∷ 5 ∷ 5 ∷ 0 ∷ 0 ∷ 5 ∷ 5 ∷ 0 ∷ 1 ∷ 3 ∷ 3 ∷ 1 ∷ 0 ∷ 1 ∷ 1 ∷ 0 ∷ 255 ∷ 0 ∷ 0 ∷ 0 ∷ []

unfoldable pub block_by_first : List ℕ
block_by_first =
    -- event running user next call
    101 ∷ 118 ∷ 101 ∷ 110 ∷ 116 ∷ 32 ∷ 114 ∷ 117 ∷ 110 ∷ 110 ∷ 105 ∷ 110 ∷ 103 ∷ 32 ∷ 117 ∷ 115 ∷ 101 ∷ 114 ∷ 32 ∷ 110 ∷ 101 ∷ 120 ∷ 116 ∷ 32 ∷ 99 ∷ 97 ∷ 108
    ∷ 108 ∷ 10
    -- 1 0 1 1 0
    ∷ 49 ∷ 32 ∷ 48 ∷ 32 ∷ 49 ∷ 32 ∷ 49 ∷ 32 ∷ 48 ∷ 10
    -- 2 0 5 1 0
    ∷ 50 ∷ 32 ∷ 48 ∷ 32 ∷ 53 ∷ 32 ∷ 49 ∷ 32 ∷ 48 ∷ 10
    -- 3 0 5 5 0
    ∷ 51 ∷ 32 ∷ 48 ∷ 32 ∷ 53 ∷ 32 ∷ 53 ∷ 32 ∷ 48 ∷ 10
    -- 4 0 5 5 0
    ∷ 52 ∷ 32 ∷ 48 ∷ 32 ∷ 53 ∷ 32 ∷ 53 ∷ 32 ∷ 48 ∷ 10
    -- 5 1 3 3 1
    ∷ 53 ∷ 32 ∷ 49 ∷ 32 ∷ 51 ∷ 32 ∷ 51 ∷ 32 ∷ 49 ∷ 10
    -- 6 0 1 1 0
    ∷ 54 ∷ 32 ∷ 48 ∷ 32 ∷ 49 ∷ 32 ∷ 49 ∷ 32 ∷ 48 ∷ 10
    -- 7 - 0 0 0
    ∷ 55 ∷ 32 ∷ 45 ∷ 32 ∷ 48 ∷ 32 ∷ 48 ∷ 32 ∷ 48 ∷ 10
    -- calls 1 2
    ∷ 99 ∷ 97 ∷ 108 ∷ 108 ∷ 115 ∷ 32 ∷ 49 ∷ 32 ∷ 50 ∷ 10
    -- delayed 0 2 0 0
    ∷ 100 ∷ 101 ∷ 108 ∷ 97 ∷ 121 ∷ 101 ∷ 100 ∷ 32 ∷ 48 ∷ 32 ∷ 50 ∷ 32 ∷ 48 ∷ 32 ∷ 48 ∷ 10
    ∷ []

-- P5, as a list of events: its rows, and the work that is refused
rows_of_refused : List ℕ
rows_of_refused = 0 ∷ 1 ∷ 0 ∷ 0 ∷ 0 ∷ 5 ∷ 0 ∷ 0 ∷ 0 ∷ 5 ∷ 0 ∷ 0 ∷ []

unfoldable pub block_of_refused : List ℕ
block_of_refused =
    -- event running user next call
    101 ∷ 118 ∷ 101 ∷ 110 ∷ 116 ∷ 32 ∷ 114 ∷ 117 ∷ 110 ∷ 110 ∷ 105 ∷ 110 ∷ 103 ∷ 32 ∷ 117 ∷ 115 ∷ 101 ∷ 114 ∷ 32 ∷ 110 ∷ 101 ∷ 120 ∷ 116 ∷ 32 ∷ 99 ∷ 97 ∷ 108
    ∷ 108 ∷ 10
    -- 1 0 1 0 0
    ∷ 49 ∷ 32 ∷ 48 ∷ 32 ∷ 49 ∷ 32 ∷ 48 ∷ 32 ∷ 48 ∷ 10
    -- 2 0 5 0 0
    ∷ 50 ∷ 32 ∷ 48 ∷ 32 ∷ 53 ∷ 32 ∷ 48 ∷ 32 ∷ 48 ∷ 10
    -- 3 0 5 0 0
    ∷ 51 ∷ 32 ∷ 48 ∷ 32 ∷ 53 ∷ 32 ∷ 48 ∷ 32 ∷ 48 ∷ 10
    -- refused 21 3
    ∷ 114 ∷ 101 ∷ 102 ∷ 117 ∷ 115 ∷ 101 ∷ 100 ∷ 32 ∷ 50 ∷ 49 ∷ 32 ∷ 51 ∷ 10
    ∷ []

shown : T (same (report_of (Ok tt) 7 rows 1 2 (0 ∷ 2 ∷ 0 ∷ 0 ∷ [])) block
    && same (report_of (Ok tt) 7 rows_by_first 1 2 (0 ∷ 2 ∷ 0 ∷ 0 ∷ [])) block_by_first
    && same (report_of (refused_at PastLimit 3) 3 rows_of_refused 0 1 (0 ∷ 0 ∷ 0 ∷ 0 ∷ [])) block_of_refused)
unfolding same rows block rows_by_first block_by_first rows_of_refused block_of_refused number_of digits_in digits spaced line header runner row_words
    row_line row_lines calls_line delayed_line refused_line report_of
shown = tt
