-- The ways through the code over one record of the event body. Assumes nothing.
use Rattle.std.specs.Prelude.{if◌then◌else◌}
use mathlib.Core.Path.{◌≡◌, refl, sym, ◌∙◌, ap}
use mathlib.Core.Bool.{Bool, true, false, not, ◌&&◌, ◌||◌, beq}
use mathlib.Core.List.{List}
use Prim.Native.Nat.{ℕ, zero, suc, ◌+◌, ◌*◌, ◌/◌, ◌≤◌, ◌<◌}
use native.Mathlib.Omega.{arith}
use lib.Dec.{eqb, leb, ltb}
use lib.ListN.{length}
use borrow.Author.Tests.{lt-ltb, le-ltb, lt-leb, ne_eqb}
use Rattle.rules.specs.Numbers.Place.{at}
use Rattle.rules.specs.Books.Event.{event_fault, event_of}
use Rattle.rules.specs.Books.Book.{word, record_fault, record_event, found_at}
use Rattle.rules.specs.declared.event.Event.{Event}
use Rattle.rules.specs.declared.answer.Found.{Found}
use Rattle.rules.specs.declared.refusal.Refusal.TheVariants.{WrongEvent}
use Rattle.rules.proofs.Numbers.Choice.{if_true, if_false}

-- ---- 8, with all asked at once

-- of a kind, whether there is no amount and whether there is no id
Asked : ℕ → Bool → Bool → Type 0
Asked kind none unnamed =
    ((beq (eqb kind 4) none || (eqb kind 0 || ltb 6 kind)) || (ltb 3 kind && not unnamed))
    ≡ (if eqb kind 0 then true
    else if leb kind 3 then not none
    else if eqb kind 4 then (if unnamed then none else true)
    else if leb kind 6 then (if unnamed then not none else true)
    else true)

all_four : (kind : ℕ) → Asked kind true true → Asked kind true false → Asked kind false true → Asked kind false false → (a b : Bool) → Asked kind a b
all_four kind p q r s true true = p
all_four kind p q r s true false = q
all_four kind p q r s false true = r
all_four kind p q r s false false = s

-- a kind above them all
none_above : (kind : ℕ) → 6 < kind → (none unnamed : Bool) → Asked kind none unnamed
unfolding Asked
none_above kind h none unnamed = rw (
  ne_eqb kind 0 (λ e. omega (arith, h, e)),
  ne_eqb kind 4 (λ e. omega (arith, h, e)),
  lt-leb kind 3 (omega (arith, h)),
  lt-leb kind 6 (omega (arith, h)),
  lt-ltb 6 kind h,
) (either_way none)
  where
    either_way : (none : Bool) → ((beq false none || true) || (ltb 3 kind && not unnamed)) ≡ true
    either_way true = refl
    either_way false = refl

asked : (kind : ℕ) (none unnamed : Bool) → Asked kind none unnamed
unfolding Asked
asked zero = all_four 0 refl refl refl refl
asked (suc zero) = all_four 1 refl refl refl refl
asked (suc (suc zero)) = all_four 2 refl refl refl refl
asked (suc (suc (suc zero))) = all_four 3 refl refl refl refl
asked (suc (suc (suc (suc zero)))) = all_four 4 refl refl refl refl
asked (suc (suc (suc (suc (suc zero))))) = all_four 5 refl refl refl refl
asked (suc (suc (suc (suc (suc (suc zero)))))) = all_four 6 refl refl refl refl
asked (suc (suc (suc (suc (suc (suc (suc k))))))) = none_above (suc (suc (suc (suc (suc (suc (suc k))))))) (omega arith)

pub all_asked : (kind id amount : ℕ)
    → ((beq (eqb kind 4) (eqb amount 0) || (eqb kind 0 || ltb 6 kind)) || (ltb 3 kind && not (eqb id 0))) ≡ event_fault kind id amount
unfolding Asked event_fault
all_asked kind id amount = asked kind (eqb amount 0) (eqb id 0)

-- ---- a record where it lies

module _ (body : List ℕ) (k : ℕ) where
  pub found_end : length body / 4 ≤ k → Found.End ≡ found_at body k
  unfolding found_at
  found_end h = sym (if_false (ltb k (length body / 4)) (if record_fault body k then Found.Refused WrongEvent k else Found.Got (record_event body k) (k + 1))
      Found.End (le-ltb k (length body / 4) h))

  found_in : k < length body / 4 → found_at body k ≡ (if record_fault body k then Found.Refused WrongEvent k else Found.Got (record_event body k) (k + 1))
  unfolding found_at
  found_in h = if_true (ltb k (length body / 4)) (if record_fault body k then Found.Refused WrongEvent k else Found.Got (record_event body k) (k + 1)) Found.End
      (lt-ltb k (length body / 4) h)

  -- the amount as the code has it, and what the test said
  module _ (amount : ℕ) (read : amount ≡ word body (k * 4 + 2)) (r : Bool) (said : r ≡ event_fault (at body (k * 4)) (at body (k * 4 + 1)) amount) where
    pub record_said : r ≡ record_fault body k
    record_said = rw (← read) said

    pub found_bad : k < length body / 4 → r ≡ true → Found.Refused WrongEvent k ≡ found_at body k
    found_bad h e = sym (found_in h ∙ if_true (record_fault body k) (Found.Refused WrongEvent k) (Found.Got (record_event body k) (k + 1)) (sym record_said ∙ e))

    pub found_good : (e : Event) → k < length body / 4 → r ≡ false → e ≡ event_of (at body (k * 4)) (at body (k * 4 + 1)) amount
        → Found.Got e (k + 1) ≡ found_at body k
    found_good e h g i =
        ap (λ v. Found.Got v (k + 1)) (rw (← read) i)
        ∙ sym (found_in h ∙ if_false (record_fault body k) (Found.Refused WrongEvent k) (Found.Got (record_event body k) (k + 1)) (sym record_said ∙ g))
