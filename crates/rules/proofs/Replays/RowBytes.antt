-- The four bytes of a row, and all others. Assumes nothing.
use Rattle.std.specs.Prelude.{if◌then◌else◌}
use mathlib.Core.Path.{◌≡◌, ◌∙◌}
use mathlib.Core.Bool.{Bool}
use mathlib.Core.List.{List}
use Prim.Native.Nat.{ℕ, ◌+◌, ◌*◌, ◌≤◌, ◌<◌}
use native.Mathlib.Omega.{arith}
use lib.ListN.{length, set, length-set}
use lib.Seq.{lt-length-set, get_or-set_same, get_or-set_other}
use Rattle.rules.specs.Numbers.Place.{at}
use Rattle.rules.specs.Replays.Run.{with_row}
use Rattle.rules.specs.declared.state.Head.{Head}

module _ (xs : List ℕ) (k : ℕ) (h : Head) (call : Bool) where
  -- with one, two and three of its bytes
  abbrev one : List ℕ
  one = set xs (k * 4) h.running

  abbrev two : List ℕ
  two = set one (k * 4 + 1) h.user.0

  abbrev three : List ℕ
  three = set two (k * 4 + 2) h.next.0

  pub row_length : length (with_row xs k h call) ≡ length xs
  unfolding with_row
  row_length = length-set three (k * 4 + 3) _ ∙ length-set two (k * 4 + 2) _ ∙ length-set one (k * 4 + 1) _ ∙ length-set xs (k * 4) _

  -- any other byte stays
  pub row_other : (i : ℕ) → (k * 4 ≤ i → i < k * 4 + 4 → ⊥) → at (with_row xs k h call) i ≡ at xs i
  unfolding with_row
  row_other i n =
      get_or-set_other three (k * 4 + 3) i _ 0 (λ e. n (omega arith) (omega arith)) ∙ get_or-set_other two (k * 4 + 2) i _ 0 (λ e. n (omega arith) (omega arith))
      ∙ get_or-set_other one (k * 4 + 1) i _ 0 (λ e. n (omega arith) (omega arith)) ∙ get_or-set_other xs (k * 4) i _ 0 (λ e. n (omega arith) (omega arith))

  module _ (room : k * 4 + 4 ≤ length xs) where
    pub row_running : at (with_row xs k h call) (k * 4) ≡ h.running
    unfolding with_row
    row_running =
        get_or-set_other three (k * 4 + 3) (k * 4) _ 0 (λ e. omega arith) ∙ get_or-set_other two (k * 4 + 2) (k * 4) _ 0 (λ e. omega arith)
        ∙ get_or-set_other one (k * 4 + 1) (k * 4) _ 0 (λ e. omega arith) ∙ get_or-set_same xs (k * 4) _ 0 (omega arith)

    pub row_user : at (with_row xs k h call) (k * 4 + 1) ≡ h.user.0
    unfolding with_row
    row_user =
        get_or-set_other three (k * 4 + 3) (k * 4 + 1) _ 0 (λ e. omega arith) ∙ get_or-set_other two (k * 4 + 2) (k * 4 + 1) _ 0 (λ e. omega arith)
        ∙ get_or-set_same one (k * 4 + 1) _ 0 (lt-length-set xs (k * 4) _ (omega arith))

    pub row_next : at (with_row xs k h call) (k * 4 + 2) ≡ h.next.0
    unfolding with_row
    row_next =
        get_or-set_other three (k * 4 + 3) (k * 4 + 2) _ 0 (λ e. omega arith)
        ∙ get_or-set_same two (k * 4 + 2) _ 0 (lt-length-set one (k * 4 + 1) _ (lt-length-set xs (k * 4) _ (omega arith)))

    pub row_call : at (with_row xs k h call) (k * 4 + 3) ≡ (if call then 1 else 0)
    unfolding with_row
    row_call = get_or-set_same three (k * 4 + 3) _ 0 (lt-length-set two (k * 4 + 2) _
        (lt-length-set one (k * 4 + 1) _ (lt-length-set xs (k * 4) _ (omega arith))))
