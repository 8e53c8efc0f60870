-- The bodies of a book that is laid out right: each lies within it, and gives its records. Assumes nothing.
use mathlib.Core.Path.{◌≡◌, refl, sym, ◌∙◌, ap, ap₂}
use mathlib.Core.List.{List, [], ◌∷◌, ◌++◌}
use Prim.Native.Nat.{ℕ, zero, suc, ◌+◌, ◌*◌, ◌≤◌, ◌<◌}
use Rattle.std.proofs.Common.{zero-add, add-zero}
use native.Mathlib.Numerals.{add-one}
use native.Mathlib.Omega.{arith}
use lib.ListN.{length, take, drop, set, length-drop}
use Rattle.std.proofs.lemmas.List.{take_more_set}
use Rattle.rules.specs.Numbers.Place.{from, tabulate}
use Rattle.rules.specs.Books.Book.{count_at, size_of, body_at}
use Rattle.book.specs.Laid.{Laid}

module _ (b : List ℕ) (laid : Laid b) where
  -- each body ends where the next one starts, and the last at the end
  spans : (body_at b 1 ≡ body_at b 0 + count_at b 0 * 2) × (body_at b 2 ≡ body_at b 1 + count_at b 1 * 4) × (body_at b 3 ≡ body_at b 2 + count_at b 2 * 2)
      × (length b ≡ body_at b 3 + count_at b 3 * 4)
  unfolding body_at size_of
  spans = (refl, refl, refl, sym laid.ends)

  pub task_body : body_at b 0 + count_at b 0 * 2 ≤ length b
  task_body = omega (arith, spans.0, spans.1, spans.2, spans.3)

  pub lock_body : body_at b 1 + count_at b 1 * 4 ≤ length b
  lock_body = omega (arith, spans.1, spans.2, spans.3)

  pub use_body : body_at b 2 + count_at b 2 * 2 ≤ length b
  use_body = omega (arith, spans.2, spans.3)

  pub event_body_lem : (from : ℕ) → from ≡ body_at b 3 → from ≤ length b
  event_body_lem from f = omega (arith, spans.3)

  -- the event body has four bytes an event
  pub event_size : length (drop (body_at b 3) b) ≡ count_at b 3 * 4
  event_size = length-drop (body_at b 3) b ∙ omega (arith, spans.3)

-- a table that is filled from its front
pub tabulate_more : {X : Type 0} (f : ℕ → X) (i n : ℕ) → from f i (suc n) ≡ from f i n ++ f (i + n) ∷ []
unfolding from
tabulate_more f i zero = ap (λ k. f k ∷ []) (sym (add-zero i))
tabulate_more f i (suc n) = ap (λ xs. f i ∷ xs) (tabulate_more f (suc i) n ∙ ap (λ k. from f (suc i) n ++ f k ∷ []) (omega arith))

module _ {X : Type 0} (f : ℕ → X) (xs : List X) where
  pub filled_start : take 0 xs ≡ tabulate 0 f
  unfolding from
  filled_start = refl

  pub filled_next : (i : ℕ) (v : X) → take i xs ≡ tabulate i f → i < length xs → v ≡ f i → take (i + 1) (set xs i v) ≡ tabulate (i + 1) f
  filled_next i v e h q =
      take_more_set xs i v h ∙ ap₂ (λ ys y. ys ++ y ∷ []) e (q ∙ ap f (sym (zero-add i))) ∙ sym (tabulate_more f 0 i) ∙ ap (λ k. tabulate k f) (sym (add-one i))
