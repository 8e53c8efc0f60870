-- RULES 4.8: the reader walks the event body where it lies, one record at a time, through every book that passes 1 to 9 and 24. Assumes nothing.
use Rattle.std.specs.Prelude.{Ok}
use mathlib.Core.Path.{◌≡◌, sym, ◌∙◌, ap}
use mathlib.Core.Logic.{⊎_elim}
use mathlib.Core.List.{List}
use Prim.Native.Nat.{ℕ, ◌+◌, ◌/◌, ◌≤◌, ◌<◌}
use native.Mathlib.Omega.{arith}
use lib.Dec.{ltb}
use lib.ListN.{length}
use borrow.Author.Tests.{lt-ltb, le-ltb}
use Rattle.rules.specs.Numbers.Answer.{found_some, found_event, found_next, found_number}
use Rattle.rules.specs.Books.Book.{count_at, event_body, record_fault, record_event, events_of, found_at, check_of}
use Rattle.rules.specs.Demands.History.{event_at}
use Rattle.rules.specs.declared.answer.Found.{Found}
use Rattle.rules.specs.declared.event.Event.TheVariants.{Tick}
use Rattle.rules.specs.declared.refusal.Refusal.TheVariants.{WrongEvent}
use Rattle.rules.proofs.Numbers.Choice.{if_true, if_false, lt_or_le}
use Rattle.rules.proofs.Numbers.Place.{get_d_tabulate, length_from}
use Rattle.book.specs.Reader.{ReadAt}
use Rattle.book.proofs.Accepted.{records, no_fault}

module _ (b : List ℕ) (room : ℕ) (passed : check_of b room ≡ Ok tt) where
  walks_event : (k : ℕ) → k < count_at b 3 → found_at (event_body b) k ≡ Found.Got (event_at (events_of b) k) (k + 1)
  unfolding found_at
  walks_event k h =
      if_true (ltb k (length (event_body b) / 4)) _ Found.End (lt-ltb k (length (event_body b) / 4) (omega (arith, records b room passed)))
      ∙ if_false (record_fault (event_body b) k) (Found.Refused WrongEvent k) (Found.Got (record_event (event_body b) k) (k + 1)) (no_fault b room passed k h)
      ∙ ap (λ e. Found.Got e (k + 1)) (sym (get_d_tabulate (record_event (event_body b)) (count_at b 3) k Tick h))

  walks_end : (k : ℕ) → count_at b 3 ≤ k → found_at (event_body b) k ≡ Found.End
  unfolding found_at
  walks_end k h = if_false (ltb k (length (event_body b) / 4)) _ Found.End (le-ltb k (length (event_body b) / 4) (omega (arith, records b room passed)))

  few : length (events_of b) ≡ count_at b 3
  few = length_from (record_event (event_body b)) 0 (count_at b 3)

  pub walks : (k : ℕ) → ReadAt b k (found_at (event_body b) k)
  unfolding found_some found_event found_next found_number
  walks k = record {
    some = λ h. ap found_some (walks_event k (omega (arith, few)));
    event = λ h. ap found_event (walks_event k (omega (arith, few)));
    next = λ h. ap found_next (walks_event k (omega (arith, few)));
    end = λ h. ap found_some (walks_end k (omega (arith, few)));
    number = ⊎_elim (λ h. ap found_number (walks_event k h)) (λ h. ap found_number (walks_end k h)) (lt_or_le k (count_at b 3));
  }
