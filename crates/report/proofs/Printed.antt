-- Laws of the lines of the report, one word or one line more. Assumes nothing.
use mathlib.Core.Path.{◌≡◌, refl, sym, ◌∙◌, ap}
use mathlib.Core.List.{List, [], ◌∷◌, ◌++◌, append-nil, append_assoc}
use Prim.Native.Nat.{ℕ, ◌+◌}
use native.Mathlib.Numerals.{add-one}
use lib.Dec.{eqb}
use borrow.Author.Tests.{eq-eqb, ne_eqb}
use Rattle.rules.specs.Numbers.Capacity.{nobody}
use Rattle.rules.proofs.Numbers.Choice.{if_true, if_false}
use Rattle.page.specs.Decimal.{digits}
use Rattle.report.specs.Report.{space, dash, spaced, runner, row_line, row_lines}

-- the running task, and nobody
pub runner_nobody : (t : ℕ) → t ≡ nobody → runner t ≡ dash
unfolding runner
runner_nobody t e = if_true (eqb t nobody) dash (digits t) (eq-eqb t nobody e)

pub runner_task : (t : ℕ) → (t ≡ nobody → ⊥) → runner t ≡ digits t
unfolding runner
runner_task t n = if_false (eqb t nobody) dash (digits t) (ne_eqb t nobody n)

-- no line, and a line after others
pub rows_none : (rows : List ℕ) → row_lines rows 0 ≡ []
unfolding row_lines
rows_none rows = refl

pub rows_more : (rows : List ℕ) (k : ℕ) → row_lines rows (k + 1) ≡ row_lines rows k ++ row_line rows k
unfolding row_lines
rows_more rows k = rw (add-one k) refl

-- no word, and a word after others
pub spaced_none : spaced [] ≡ []
unfolding spaced
spaced_none = refl

pub spaced_more : (ws : List (List ℕ)) (w : List ℕ) → spaced (ws ++ w ∷ []) ≡ spaced ws ++ space ∷ w
unfolding spaced
spaced_more [] w = ap (λ x. space ∷ x) (append-nil w)
spaced_more (v ∷ ws) w = ap (λ x. space ∷ v ++ x) (spaced_more ws w) ∙ ap (λ x. space ∷ x) (sym (append_assoc v (spaced ws) (space ∷ w)))
