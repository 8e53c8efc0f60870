-- A body where it lies in a book. Assumes nothing.
use mathlib.Core.Path.{◌≡◌, refl}
use mathlib.Core.List.{List}
use Prim.Native.Nat.{ℕ, ◌≤◌}
use native.Mathlib.Omega.{arith}
use lib.ListN.{length, drop, drop_of_length-le}
use borrow.Author.Tests.{le-ltb}
use Rattle.rules.specs.Books.Book.{found_at}
use Rattle.rules.specs.declared.answer.Found.{Found}

module _ (b : List ℕ) (from k : ℕ) where
  -- nothing lies past the end
  pub found_past : length b ≤ from → Found.End ≡ found_at (drop from b) k
  unfolding found_at
  found_past h = rw (drop_of_length-le b h, le-ltb k 0 (omega arith)) refl
