-- How long the report of a replay can be. Assumes nothing.
use Rattle.std.specs.Prelude.{Ok}
use Rattle.rules.specs.Numbers.Verdict.{refused_at}
use mathlib.Core.Path.{◌≡◌, refl, ◌∙◌}
use mathlib.Core.Logic.{◌≢◌}
use mathlib.Core.List.{List, [], ◌∷◌, ◌++◌, map}
use Prim.Native.Nat.{ℕ, zero, suc, ◌+◌, ◌*◌, ◌^◌, ◌≤◌, ◌<◌}
use native.Mathlib.Omega.{arith}
use lib.Dec.{eqb}
use lib.ListN.{length, length-append}
use borrow.Author.Tests.{eqb-false}
use Rattle.rules.specs.Numbers.Capacity.{max_tasks, nobody}
use Rattle.rules.specs.Numbers.Place.{at}
use Rattle.rules.specs.Numbers.Refusal.{number_of}
use Rattle.rules.specs.declared.refusal.Refusal.{Refusal}
use Rattle.rules.proofs.Numbers.Choice.{if_true, if_false, by_test}
use Rattle.rules.proofs.Numbers.Refusals.{numbered}
use Rattle.rules.proofs.Demands.Sizes.{SmallRow}
use Rattle.page.specs.Decimal.{digits}
use Rattle.page.proofs.Numbers.{digits_few}
use Rattle.report.specs.Report.{newline, dash, delayed, spaced, line, header, runner}
use Rattle.report.specs.Report.{row_words, row_line, row_lines, calls_line, delayed_line, refused_line, report_of}

-- ---- a number

-- a task, or `-`
runner_few : (t : ℕ) → (t ≢ nobody → t < max_tasks) → length (runner t) ≤ 3
unfolding runner
runner_few t h = by_test (eqb t nobody)
    (λ e. rw (if_true (eqb t nobody) dash (digits t) e) (omega arith))
    (λ e. rw (if_false (eqb t nobody) dash (digits t) e) (digits_few 2 t (omega (arith, h (eqb-false t nobody e)))))

-- ---- a line

none_long : length (spaced []) ≡ 0
unfolding spaced
none_long = refl

one_long : (w : List ℕ) (ws : List (List ℕ)) → length (spaced (w ∷ ws)) ≡ 1 + length w + length (spaced ws)
unfolding spaced
one_long w ws = omega (arith, length-append w (spaced ws))

line_long : (w : List ℕ) (ws : List (List ℕ)) → length (line w ws) ≡ length w + length (spaced ws) + 1
unfolding line
line_long w ws = length-append (w ++ spaced ws) (newline ∷ []) ∙ omega (arith, length-append w (spaced ws))

header_long : length header ≡ 29
unfolding header line spaced
header_long = refl

-- the row of the event k
abbrev pub SmallAt : List ℕ → ℕ → Type 0
SmallAt rows k = SmallRow (at rows (k * 4)) (at rows (k * 4 + 1)) (at rows (k * 4 + 2)) (at rows (k * 4 + 3))

-- its line, where its number has five digits or fewer
row_long : (rows : List ℕ) (k : ℕ) → k + 1 < 10 ^ 5 → SmallAt rows k → length (row_line rows k) ≤ 20
unfolding row_line row_words
row_long rows k h R = simp (line_long, one_long, none_long) (omega (
  arith,
  digits_few 4 (k + 1) h,
  runner_few (at rows (k * 4)) R.runs,
  digits_few 2 (at rows (k * 4 + 1)) (omega (arith, R.own)),
  digits_few 2 (at rows (k * 4 + 2)) (omega (arith, R.others)),
  digits_few 0 (at rows (k * 4 + 3)) (omega (arith, R.once)),
))

rows_long : (rows : List ℕ) (n : ℕ) → n < 10 ^ 5 → ((k : ℕ) → k < n → SmallAt rows k) → length (row_lines rows n) ≤ n * 20
unfolding row_lines
rows_long rows zero h R = omega arith
rows_long rows (suc k) h R = omega (
  arith,
  length-append (row_lines rows k) (row_line rows k),
  rows_long rows k (omega arith) (λ j l. R j (omega arith)),
  row_long rows k (omega arith) (R k (omega arith)),
)

calls_long : (lazy eager : ℕ) → lazy < 10 ^ 5 → eager < 10 ^ 5 → length (calls_line lazy eager) ≤ 18
unfolding calls_line
calls_long lazy eager h g = simp (line_long, one_long, none_long) (omega (arith, digits_few 4 lazy h, digits_few 4 eager g))

refused_long : (why : Refusal) (place : ℕ) → place < 10 ^ 5 → length (refused_line why place) ≤ 17
unfolding refused_line
refused_long why place h = simp (line_long, one_long, none_long) (omega (
  arith,
  digits_few 1 (number_of why) (numbered why).1,
  digits_few 4 place h,
))

-- numbers of five digits or fewer, each with its space
list_long : (xs : List ℕ) → ((i : ℕ) → at xs i < 10 ^ 5) → length (spaced (map digits xs)) ≤ length xs * 6
unfolding spaced
list_long [] h = omega arith
list_long (x ∷ xs) h = omega (arith, one_long (digits x) (map digits xs), digits_few 4 x (h 0), list_long xs (λ i. h (suc i)))

delayed_long : (xs : List ℕ) → ((i : ℕ) → at xs i < 10 ^ 5) → length (delayed_line xs) ≤ 8 + length xs * 6
unfolding delayed_line
delayed_long xs h = omega (arith, line_long delayed (map digits xs), list_long xs h)

-- ---- the whole report

module _ (rows : List ℕ) (n : ℕ) (few : n < 10 ^ 5) (small : (k : ℕ) → k < n → SmallAt rows k) (lazy eager : ℕ) (delays : List ℕ) where
  pub passed_long : lazy < 10 ^ 5 → eager < 10 ^ 5 → ((i : ℕ) → at delays i < 10 ^ 5)
      → length (report_of (Ok tt) n rows lazy eager delays) ≤ 55 + n * 20 + length delays * 6
  unfolding report_of
  passed_long l e d = simp length-append (omega (arith, header_long, rows_long rows n few small, calls_long lazy eager l e, delayed_long delays d))

  pub stopped_long : (why : Refusal) (place : ℕ) → place < 10 ^ 5 → length (report_of (refused_at why place) n rows lazy eager delays) ≤ 46 + n * 20
  unfolding report_of
  stopped_long why place h = simp length-append (omega (arith, header_long, rows_long rows n few small, refused_long why place h))
