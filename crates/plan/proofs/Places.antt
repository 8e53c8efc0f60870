-- What is asked of the places below n, as an iterator asks it. Assumes nothing.
use Rattle.std.proofs.Common.{◌≡◌, ℕ, ◌+◌, ◌<◌, Bool, true, false, ◌&&◌, refl, sym, ◌∙◌, ap, ap₂, add-one}
use Rattle.rules.specs.Numbers.Place.{every, any}
use Rattle.rules.proofs.Numbers.Choice.{by_test, not_so}
use Rattle.rules.proofs.Numbers.Place.{every_true, true_every, false_any, any_false}

module _ (f : ℕ → Bool) (n : ℕ) where
  -- r is true where f holds at each of them, and false where it does not
  pub every_said : (r : Bool) → (r ≡ true → (k : ℕ) → k < n → f k ≡ true) → (r ≡ false → ((k : ℕ) → k < n → f k ≡ true) → ⊥) → r ≡ every f n
  every_said r a b = by_test r
      (λ e. e ∙ sym (true_every f n (a e)))
      (λ e. e ∙ sym (not_so (every f n) (λ q. b e (every_true f n q))))

  -- the same where it holds at one of them
  pub any_said : (r : Bool) → (r ≡ true → ((k : ℕ) → k < n → f k ≡ false) → ⊥) → (r ≡ false → (k : ℕ) → k < n → f k ≡ false) → r ≡ any f n
  any_said r a b = by_test r
      (λ e. by_test (any f n) (λ q. e ∙ sym q) (λ q. absurd (a e (any_false f n q))))
      (λ e. e ∙ sym (false_any f n (b e)))

-- a loop that asks at every place: what it has found among the first i of them
module _ (f : ℕ → Bool) where
  pub every_none : true ≡ every f 0
  unfolding every
  every_none = refl

  pub every_more : (i : ℕ) (found v : Bool) → found ≡ every f i → v ≡ f i → (found && v) ≡ every f (i + 1)
  unfolding every
  every_more i found v e h = rw (add-one i) (ap₂ ◌&&◌ e h)

  pub every_all : (n i : ℕ) (found : Bool) → found ≡ every f i → i ≡ n → found ≡ every f n
  every_all n i found e h = e ∙ ap (every f) h
