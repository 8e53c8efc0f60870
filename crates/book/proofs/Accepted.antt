-- A book that passes 1 to 9 and 24: its events are all that follows from their body's start, none of them is at fault, and there is room for their rows. Assumes
-- nothing.
use Rattle.std.specs.Prelude.{Ok}
use mathlib.Core.Path.{◌≡◌, ◌∙◌}
use mathlib.Core.Bool.{false}
use mathlib.Core.List.{List}
use Prim.Native.Nat.{ℕ, ◌+◌, ◌*◌, ◌/◌, ◌≤◌, ◌<◌}
use native.Mathlib.Omega.{arith}
use lib.Dec.{eqb}
use lib.ListN.{length, length-drop}
use borrow.Author.Tests.{eqb-true, ltb-false, not-false}
use Rattle.rules.specs.Numbers.Refusal.{number_of, check_for}
use Rattle.rules.specs.Books.Book.{count_at, size_of, body_at, layout_fault, event_body, record_fault, contents_checks, event_checks, check_of}
use Rattle.rules.specs.declared.refusal.Refusal.TheVariants.{WrongLayout, WrongEvent, ShortRows}
use Rattle.rules.proofs.Numbers.Checks.{clean_for}
use Rattle.rules.proofs.Books.Passes.{passed_contents, passed_events}

module _ (b : List ℕ) (room : ℕ) (passed : check_of b room ≡ Ok tt) where
  pub ends : body_at b 3 + count_at b 3 * 4 ≡ length b
  unfolding contents_checks check_for number_of layout_fault body_at size_of
  ends = eqb-true (body_at b 4) (length b) (not-false (eqb (body_at b 4) (length b))
      (clean_for (contents_checks b) (passed_contents b room passed) WrongLayout 4 (omega arith)))

  pub size : length (event_body b) ≡ count_at b 3 * 4
  size = length-drop (body_at b 3) b ∙ omega (arith, ends)

  pub records : length (event_body b) / 4 ≡ count_at b 3
  records = omega (arith, size)

  pub no_fault : (k : ℕ) → k < count_at b 3 → record_fault (event_body b) k ≡ false
  unfolding event_checks check_for number_of
  no_fault = clean_for (event_checks b room) (passed_events b room passed) WrongEvent

  pub rows_fit : count_at b 3 * 4 ≤ room
  unfolding event_checks check_for number_of
  rows_fit = ltb-false room (count_at b 3 * 4) (clean_for (event_checks b room) (passed_events b room passed) ShortRows 0 (omega arith))
