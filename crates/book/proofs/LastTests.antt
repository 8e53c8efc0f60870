-- The last two tests of a book, 8 and then one of room, as reader and writer go along them. Assumes nothing.
use Rattle.std.specs.Prelude.{Ok}
use Rattle.rules.specs.Numbers.Verdict.{refused_at}
use mathlib.Core.Path.{◌≡◌, refl, sym, ◌∙◌, ap}
use mathlib.Core.Bool.{Bool}
use mathlib.Core.List.{[], ◌∷◌}
use Prim.Native.Nat.{ℕ, ◌≤◌, ◌<◌}
use native.Mathlib.Omega.{arith}
use lib.Dec.{ltb}
use borrow.Author.Tests.{lt-ltb, le-ltb}
use Rattle.rules.specs.Numbers.Place.{first_from}
use Rattle.rules.specs.Numbers.Refusal.{Check, first_fault}
use Rattle.rules.specs.Books.Book.{event_check}
use Rattle.rules.specs.declared.refusal.Refusal.{Refusal}
use Rattle.rules.specs.declared.refusal.Refusal.TheVariants.{WrongEvent}
use Rattle.rules.proofs.Numbers.Checks.{check_finds, check_passes, check_none, one_finds, one_passes}

-- n records, of which f says whether 8 refuses one; what they need, what there is, and the refusal where that is too little
module _ (n : ℕ) (f : ℕ → Bool) (why : Refusal) (size room : ℕ) where
  abbrev one : Check
  one = record { refusal = why; first = 0; count = 1; fault = λ _. ltb room size }

  pub wrong_one : (k : ℕ) → k < n → k ≡ first_from f 0 n → refused_at WrongEvent k ≡ first_fault (event_check n f ∷ one ∷ [])
  wrong_one k within first = sym (check_finds (event_check n f) (one ∷ []) k first within ∙ ap (refused_at WrongEvent) (omega arith))

  module _ (none : n ≤ first_from f 0 n) where
    none_wrong : first_fault (event_check n f ∷ one ∷ []) ≡ first_fault (one ∷ [])
    none_wrong = check_passes (event_check n f) (one ∷ []) (first_from f 0 n) refl none

    pub no_room : room < size → refused_at why 0 ≡ first_fault (event_check n f ∷ one ∷ [])
    no_room l = sym (none_wrong ∙ check_finds one [] 0 (one_finds (ltb room size) (lt-ltb room size l)) (omega arith))

    pub both_pass : size ≤ room → Ok tt ≡ first_fault (event_check n f ∷ one ∷ [])
    both_pass l = sym (none_wrong ∙ check_passes one [] 1 (one_passes (ltb room size) (le-ltb room size l)) (omega arith) ∙ check_none)
