-- The plan of a book by what its check answers: no task of the blank plan beside a refusal waits. Assumes nothing.
use Rattle.std.specs.Prelude.{Ok, Err}
use mathlib.Core.Path.{◌≡◌, refl, ◌∙◌, ap}
use mathlib.Core.List.{List}
use Prim.Native.Nat.{ℕ}
use Rattle.rules.specs.Books.Book.{Checked, checked_with, checked_of}
use Rattle.rules.specs.Books.Load.{blank_plan}
use Rattle.rules.specs.Demands.Bound.{longest_limit, bound_of}
use Rattle.rules.specs.Numbers.Place.{greatest}
use Rattle.rules.specs.declared.answer.Fault.{Fault}
use Rattle.rules.specs.declared.answer.Opened.{Opened}

blank_bound : (t : ℕ) → 0 ≡ bound_of blank_plan t
unfolding longest_limit greatest
blank_bound t = refl

module _ (b : List ℕ) (room t : ℕ) where
  pub bound_passed : (o : Opened) (n : ℕ) → checked_with (Ok o) ≡ checked_of b room → n ≡ bound_of o.plan t → n ≡ bound_of (checked_of b room).plan t
  unfolding checked_with
  bound_passed o n h e = e ∙ ap (λ (c : Checked). bound_of c.plan t) h

  pub bound_refused : (f : Fault) → checked_with (Err f) ≡ checked_of b room → 0 ≡ bound_of (checked_of b room).plan t
  unfolding checked_with
  bound_refused f h = blank_bound t ∙ ap (λ (c : Checked). bound_of c.plan t) h
