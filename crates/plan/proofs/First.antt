-- The first place at which a test holds, as it is found and as the checks in order take it. Assumes nothing.
use Rattle.std.proofs.Common.{◌≡◌, ℕ, ◌+◌, ◌<◌, ◌≤◌, Bool, true, false, ltb, List, ◌∷◌, Option, Some, None, refl, sym, ◌∙◌, arith}
use Rattle.rules.specs.Numbers.Verdict.{Verdict, refused_at}
use borrow.Author.Tests.{lt-ltb, le-ltb}
use mathlib.Core.Logic.{⊎_elim}
use Rattle.rules.specs.Numbers.Place.{first_from}
use Rattle.rules.proofs.Numbers.Choice.{if_true, if_false, lt_or_le, untrue}
use Rattle.rules.proofs.Numbers.Place.{first_is, first_hit}
use Rattle.rules.specs.Numbers.Refusal.{Check, first_fault}
use Rattle.rules.proofs.Numbers.Checks.{check_finds, check_passes}
use Rattle.plan.specs.First.{first_place}

module _ (f : ℕ → Bool) (n : ℕ) where
  abbrev first : ℕ
  first = first_from f 0 n

  pub some_place : (i : ℕ) → i < n → f i ≡ true → ((j : ℕ) → j < i → f j ≡ false) → Some i ≡ first_place f n
  unfolding first_place
  some_place i h t b = rw (← first_is f n i h t b) (sym (if_true (ltb i n) (Some i) None (lt-ltb i n h)))

  -- where it holds nowhere, the first place is past them all
  past : ((j : ℕ) → j < n → f j ≡ false) → n ≤ first
  past b = ⊎_elim (λ (q : first < n). untrue (sym (first_hit f 0 n (omega arith)) ∙ b first q)) (λ (q : n ≤ first). q) (lt_or_le first n)

  pub none_place : ((j : ℕ) → j < n → f j ≡ false) → None ≡ first_place f n
  unfolding first_place
  none_place b = sym (if_false (ltb first n) (Some first) None (le-ltb first n (past b)))

  -- what it says of the first place
  pub place_some : (i : ℕ) → Some i ≡ first_place f n → (i ≡ first) × (i < n)
  unfolding first_place
  place_some i e = ⊎_elim
      (λ (q : first < n). let s : Some i ≡ Some first = e ∙ if_true (ltb first n) (Some first) None (lt-ltb first n q) in
      let t : i ≡ first = cc in (t, omega arith))
      (λ (q : n ≤ first). let s : Some i ≡ None = e ∙ if_false (ltb first n) (Some first) None (le-ltb first n q) in cc)
      (lt_or_le first n)

  pub place_none : None ≡ first_place f n → n ≤ first
  unfolding first_place
  place_none e = ⊎_elim
      (λ (q : first < n). let s : None ≡ Some first = e ∙ if_true (ltb first n) (Some first) None (lt-ltb first n q) in cc)
      (λ (q : n ≤ first). q)
      (lt_or_le first n)

  -- what an iterator found
  pub place_said : (r : Option ℕ) → ((i : ℕ) → r ≡ Some i → i < n) → ((i : ℕ) → r ≡ Some i → f i ≡ true)
      → ((i : ℕ) → r ≡ Some i → (j : ℕ) → j < i → f j ≡ false) → (r ≡ None → (j : ℕ) → j < n → f j ≡ false) → r ≡ first_place f n
  place_said (Some i) a b c d = some_place i (a i refl) (b i refl) (c i refl)
  place_said None a b c d = none_place (d refl)

-- ---- checks in order, by the first place of each

module _ (c : Check) (cs : List Check) where
  pub place_refuses : (i place : ℕ) → Some i ≡ first_place c.fault c.count → place ≡ c.first + i → refused_at c.refusal place ≡ first_fault (c ∷ cs)
  place_refuses i place e h = let (q, l) = place_some c.fault c.count i e in rw h (sym (check_finds c cs i q l))

  pub place_passes : (v : Verdict) → None ≡ first_place c.fault c.count → v ≡ first_fault cs → v ≡ first_fault (c ∷ cs)
  place_passes v e h = h ∙ sym (check_passes c cs (first_from c.fault 0 c.count) refl (place_none c.fault c.count e))
