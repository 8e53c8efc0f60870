-- What an iterator says of the first n places is what the rules say of them. Assumes nothing.
use mathlib.Core.Path.{◌≡◌, refl, sym, ◌∙◌, ap}
use mathlib.Core.Logic.{◌↔◌}
use mathlib.Core.Bool.{Bool, true, false, ◌&&◌}
use mathlib.Core.List.{List}
use Prim.Native.Nat.{ℕ, zero, suc, ◌≤◌, ◌<◌, max}
use native.Mathlib.Numerals.{add-one}
use native.Mathlib.Omega.{arith}
use lib.ListN.{length, take}
use Rattle.std.specs.List.{fold, list_all}
use Rattle.std.proofs.lemmas.List.Folds.{list_all_more}
use Rattle.std.proofs.lemmas.List.Sums.{fold_more}
use Rattle.rules.specs.Numbers.Place.{at, every, greatest}
use Rattle.rules.proofs.Numbers.Place.{every_true, true_every}

-- two tests that hold where the other does are the same
pub same_test : (a b : Bool) → (a ≡ true → b ≡ true) → (b ≡ true → a ≡ true) → a ≡ b
same_test true b f g = sym (f refl)
same_test false true f g = g refl
same_test false false f g = refl

-- `all`
pub every_is : (f : ℕ → Bool) (n : ℕ) (r : Bool) → (r ≡ true) ↔ ((k : ℕ) → k < n → f k ≡ true) → r ≡ every f n
every_is f n r (a, b) = same_test r (every f n) (λ e. true_every f n (a e)) (λ e. b (every_true f n e))

-- `all` and `fold` over the first n places of a table
pub every_lists : (xs : List ℕ) (f : ℕ → Bool) (n : ℕ) → n ≤ length xs → list_all f (take n xs) ≡ every (λ i. f (at xs i)) n
unfolding every
every_lists xs f zero h = refl
every_lists xs f (suc k) h =
    rw (← add-one k) (list_all_more f xs k 0 (omega arith) ∙ ap (λ t. t && f (at xs k)) (every_lists xs f k (omega arith)))

pub every_folds : (xs : List ℕ) (f : ℕ → Bool) (n : ℕ) → n ≤ length xs → fold (λ t x. t && f x) true (take n xs) ≡ every (λ i. f (at xs i)) n
unfolding every
every_folds xs f zero h = refl
every_folds xs f (suc k) h =
    rw (← add-one k) (fold_more (λ t x. t && f x) true xs k 0 (omega arith) ∙ ap (λ t. t && f (at xs k)) (every_folds xs f k (omega arith)))

pub greatest_folds : (xs : List ℕ) (n : ℕ) → n ≤ length xs → fold (λ a x. max a x) 0 (take n xs) ≡ greatest (at xs) n
unfolding greatest
greatest_folds xs zero h = refl
greatest_folds xs (suc k) h =
    rw (← add-one k) (fold_more (λ a x. max a x) 0 xs k 0 (omega arith) ∙ ap (λ a. max a (at xs k)) (greatest_folds xs k (omega arith)))
