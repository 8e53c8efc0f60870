-- Tests in order, each by the name of its refusal: which of them refuses, and what is known where none does. Assumes nothing.
use Rattle.std.specs.Prelude.{Ok, Err}
use Rattle.rules.specs.Numbers.Verdict.{Tested}
use mathlib.Core.Path.{◌≡◌, refl, sym, ◌∙◌, ap}
use mathlib.Core.Logic.{◌↔◌}
use mathlib.Core.Bool.{Bool, true, false, not, ◌&&◌, ◌||◌}
use mathlib.Core.List.{List, [], ◌∷◌}
use Prim.Native.Nat.{ℕ}
use native.Mathlib.Omega.{arith}
use borrow.Author.Tests.{eqb-true, eq-eqb, not-true}
use Rattle.rules.specs.Numbers.Refusal.{number_of, first_true, same_number, test_for, tests_before, Given}
use Rattle.rules.specs.Numbers.Answer.{passes, tested_number}
use Rattle.rules.specs.declared.refusal.Refusal.{Refusal}
use Rattle.rules.proofs.Numbers.Refusals.{numbered}
use Rattle.rules.proofs.Numbers.Choice.{if_true, if_false, by_test, either, untrue, and_true, or_false}

pub refused_not : {P : Type 0} (why : Refusal) → ◌≡◌ {A = Tested} (Err why) (Ok tt) → P
refused_not why e = let z : ◌≡◌ {A = ℕ} 0 1 = cc in absurd (omega arith)

-- what passes is no refusal
pub passes_so : (tested : Tested) → passes tested ≡ true → tested ≡ Ok tt
unfolding passes
passes_so (Ok _) e = refl
passes_so (Err why) e = untrue (sym e)

-- ---- items that are named by their refusals, tests or checks

-- one of them gives this refusal
unfoldable pub among : {X : Type 0} → (X → Refusal) → Refusal → List X → Bool
among name why [] = false
among name why (x ∷ xs) = same_number (name x) why || among name why xs

-- no two of them give the same one: a test that computes at each list
unfoldable pub once : {X : Type 0} → (X → Refusal) → List X → Bool
once name [] = true
once name (x ∷ xs) = not (among name (name x) xs) && once name xs

-- ---- tests

abbrev pub of_test : Bool × Refusal → Refusal
of_test t = t.1

same_refused : (a b : Refusal) → ◌≡◌ {A = Tested} (Err a) (Err b) → a ≡ b
same_refused a b e = cc

-- a test that holds refuses, whatever comes after it; one that does not hands on
module _ (t : Bool × Refusal) (ts : List (Bool × Refusal)) where
  stops : t.0 ≡ true → first_true (t ∷ ts) ≡ Err t.1
  unfolding first_true
  stops e = if_true t.0 (Err t.1) (first_true ts) e

  goes_on_lem : t.0 ≡ false → first_true (t ∷ ts) ≡ first_true ts
  unfolding first_true
  goes_on_lem e = if_false t.0 (Err t.1) (first_true ts) e

  -- what refuses is the first, if it holds
  stops_as : {why : Refusal} → t.0 ≡ true → Given why (first_true (t ∷ ts)) → same_number t.1 why ≡ true
  stops_as e G = eq-eqb _ _ (ap number_of (same_refused t.1 G.refusal (sym (stops e) ∙ G.given)) ∙ G.number)

passed_not : {P : Type 0} {why : Refusal} → Given why (first_true []) → P
unfolding first_true
passed_not G = refused_not G.refusal (sym G.given)

-- where nothing is refused, no test holds
pub none_holds : (ts : List (Bool × Refusal)) → first_true ts ≡ Ok tt → (why : Refusal) → test_for why ts ≡ false
unfolding test_for
none_holds [] e why = refl
none_holds (t ∷ ts) e why = by_test t.0
    (λ q. refused_not t.1 (sym (stops t ts q) ∙ e))
    (λ q. either (λ b. b ≡ false) (same_number t.1 why) t.0 (test_for why ts) q (none_holds ts (sym (goes_on_lem t ts q) ∙ e) why))

-- a refusal that no test gives is not given
pub never_given : (ts : List (Bool × Refusal)) (why : Refusal) → among of_test why ts ≡ false → Given why (first_true ts) → ⊥
unfolding among
never_given [] why n G = passed_not G
never_given (t ∷ ts) why n G = let (a, b) = or_false (same_number t.1 why) (among of_test why ts) n in by_test t.0
    (λ q. untrue (sym (stops_as t ts q G) ∙ a))
    (λ q. never_given ts why b (rw (goes_on_lem t ts q) at G))

-- a test that holds, while none before it does, refuses
pub holds_given : (ts : List (Bool × Refusal)) (why : Refusal) → test_for why ts ≡ true → first_true (tests_before why ts) ≡ Ok tt
    → Given why (first_true ts)
unfolding test_for tests_before
holds_given [] why h c = untrue (sym h)
holds_given (t ∷ ts) why h c = by_test (same_number t.1 why)
    (λ e. record { refusal = t.1; given = stops t ts (sym (if_true (same_number t.1 why) t.0 _ e) ∙ h); number = eqb-true _ _ e })
    (λ e. let c' : first_true (t ∷ tests_before why ts) ≡ Ok tt = ap first_true (sym (if_false (same_number t.1 why) [] _ e)) ∙ c in by_test t.0
    (λ q. refused_not t.1 (sym (stops t _ q) ∙ c'))
    (λ q. rw (goes_on_lem t ts q) (holds_given ts why (sym (if_false (same_number t.1 why) t.0 _ e) ∙ h) (sym (goes_on_lem t _ q) ∙ c'))))

-- and a test that refuses holds, while none before it does
pub given_holds : (ts : List (Bool × Refusal)) → once of_test ts ≡ true → (why : Refusal) → Given why (first_true ts)
    → (test_for why ts ≡ true) × (first_true (tests_before why ts) ≡ Ok tt)
unfolding test_for tests_before once first_true
given_holds [] o why G = passed_not G
given_holds (t ∷ ts) o why G = let (a, b) = and_true (not (among of_test t.1 ts)) (once of_test ts) o in by_test t.0
    (λ q. let e : same_number t.1 why ≡ true = stops_as t ts q G in (
      if_true (same_number t.1 why) t.0 _ e ∙ q,
      ap first_true (if_true (same_number t.1 why) [] _ e),
    ))
    (λ q. let G' : Given why (first_true ts) = rw (goes_on_lem t ts q) at G in by_test (same_number t.1 why)
    (λ e. absurd (never_given ts t.1 (not-true _ a) (record { refusal = G'.refusal; given = G'.given; number = G'.number ∙ sym (eqb-true _ _ e) })))
    (λ e. let (h, c) = given_holds ts b why G' in
    (if_false (same_number t.1 why) t.0 _ e ∙ h, ap first_true (if_false (same_number t.1 why) [] _ e) ∙ goes_on_lem t (tests_before why ts) q ∙ c)))

-- a refusal is given exactly where its test holds and none before it does
pub given_exactly : (ts : List (Bool × Refusal)) → once of_test ts ≡ true → (why : Refusal)
    → Given why (first_true ts) ↔ ((test_for why ts ≡ true) × (first_true (tests_before why ts) ≡ Ok tt))
given_exactly ts o why = (given_holds ts o why, λ (h, c). holds_given ts why h c)

-- nothing is refused where no test holds
pub all_pass : (ts : List (Bool × Refusal)) → once of_test ts ≡ true → ((why : Refusal) → test_for why ts ≡ false) → first_true ts ≡ Ok tt
all_pass ts o h = go (first_true ts) refl
  where
    go : (t : Tested) → first_true ts ≡ t → first_true ts ≡ Ok tt
    go (Ok _) e = e
    go (Err why) e = untrue (sym (given_holds ts o why (record { refusal = why; given = e; number = refl })).0 ∙ h why)

-- that it is given, by its number
pub number_given : (tested : Tested) (why : Refusal) → (tested_number tested ≡ number_of why) ↔ Given why tested
unfolding tested_number
number_given tested why = (go tested, λ G. ap tested_number G.given ∙ G.number)
  where
    go : (t : Tested) → tested_number t ≡ number_of why → Given why t
    go (Ok _) e = absurd (omega (arith, (numbered why).0))
    go (Err w) e = record { refusal = w; given = refl; number = e }

-- the number 0 is said only where nothing is refused
pub none_refused : (tested : Tested) → tested_number tested ≡ 0 → tested ≡ Ok tt
unfolding tested_number
none_refused (Ok _) e = refl
none_refused (Err why) e = absurd (omega (arith, (numbered why).0))
