-- What a check of the code gives beside the number 0: the book passes, and the plan and the event body are the book's. Assumes nothing.
use Rattle.std.specs.Prelude.{Ok}
use mathlib.Core.Path.{◌≡◌, sym, ◌∙◌, ap}
use mathlib.Core.List.{List}
use Prim.Native.Nat.{ℕ}
use lib.ListN.{drop}
use Rattle.rules.specs.Numbers.Answer.{verdict_number}
use Rattle.rules.specs.Books.Book.{plan_in, event_body, check_of, checked_as, checked_of}
use Rattle.rules.specs.Books.Book.{Checked}
use Rattle.rules.proofs.Books.Passes.{verdict_held, check_passes}

module _ (b : List ℕ) (room : ℕ) (c : Checked) (h : c ≡ checked_of b room) (e : verdict_number c.verdict ≡ 0) where
  pub number_is : verdict_number (check_of b room) ≡ 0
  number_is = ap verdict_number (sym (verdict_held (check_of b room) b)) ∙ ap (λ (x : Checked). verdict_number x.verdict) (sym h) ∙ e

  passed : c ≡ checked_as (Ok tt) b
  passed = h ∙ ap (λ v. checked_as v b) (check_passes b room number_is)

  pub plan_is : c.plan ≡ plan_in b
  unfolding checked_as
  plan_is = ap (λ (x : Checked). x.plan) passed

  pub body_is : drop c.events b ≡ event_body b
  unfolding checked_as
  body_is = ap (λ (x : Checked). drop x.events b) passed
