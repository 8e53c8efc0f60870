-- Checks in order, each by the name of its refusal: what the first that finds an offender says, and what is known where none does. Assumes nothing.
use Rattle.std.specs.Result.{IsErrAnd}
use Rattle.std.proofs.lemmas.Result.{err_from_is_err_and}
use Rattle.std.specs.Prelude.{Result, Ok, Err}
use Rattle.rules.specs.Numbers.Verdict.{Verdict, refused_at}
use mathlib.Core.Path.{◌≡◌, refl, sym, ◌∙◌, ap, ap₂}
use mathlib.Core.Logic.{◌↔◌, ⊎_elim}
use mathlib.Core.Bool.{Bool, true, false, not}
use mathlib.Core.List.{List, [], ◌∷◌, ◌++◌}
use Prim.Native.Nat.{ℕ, ◌+◌, ◌≤◌, ◌<◌}
use native.Mathlib.Omega.{arith}
use lib.Dec.{ltb}
use borrow.Author.Tests.{lt-ltb, le-ltb, eqb-true, eq-eqb, not-true}
use Rattle.rules.specs.Numbers.Place.{first_from}
use Rattle.rules.specs.Numbers.Refusal.{number_of, same_number, Check, found, first_fault, check_for, checks_before, GivenAt, FirstOffender, Offended}
use Rattle.rules.specs.Numbers.Answer.{verdict_number, verdict_place}
use Rattle.rules.specs.declared.refusal.Refusal.{Refusal}
use Rattle.rules.specs.declared.answer.Fault.{Fault}
use Rattle.rules.proofs.Numbers.Choice.{if_true, if_false, by_test, either, untrue, and_true, or_false, lt_or_le}
use Rattle.rules.proofs.Numbers.Place.{first_same, first_stop, first_on, first_none, first_hit, first_before, first_is}
use Rattle.rules.proofs.Numbers.Order.{among, once}
use Rattle.rules.proofs.Numbers.Refusals.{numbered}

-- no record offends
abbrev pub Clean : Check → Type 0
Clean c = (i : ℕ) → i < c.count → c.fault i ≡ false

abbrev pub of_check : Check → Refusal
of_check c = c.refusal

pub refused_not : {P : Type 0} (why : Refusal) (place : ℕ) → refused_at why place ≡ Ok tt → P
refused_not why place e = let z : ◌≡◌ {A = ℕ} 0 1 = cc in absurd (omega arith)

same_refused : (a b : Refusal) (i j : ℕ) → refused_at a i ≡ refused_at b j → (a ≡ b) × (i ≡ j)
same_refused a b i j e =
    let same : ◌≡◌ {A = Fault} (record { why = a; place = i }) (record { why = b; place = j }) = cc in
    (ap (λ (f : Fault). f.why) same, ap (λ (f : Fault). f.place) same)

-- what `?` hands on is what it met
pub handed_on : {T E : Type 0} (r : Result T E) (g : E) → IsErrAnd r (λ f. f ≡ g) → r ≡ Err g
handed_on {E = E} r g h = let (f, is, same) = err_from_is_err_and r h in is ∙ ap (λ (x : E). Err x) same

pub check_none : first_fault [] ≡ Ok tt
unfolding first_fault
check_none = refl

-- ---- the first check

-- a check that finds an offender at i refuses, whatever comes after it; one that finds none hands on
module _ (c : Check) (i : ℕ) where
  hit : (rest : Verdict) → ltb i c.count ≡ true → found c i rest ≡ refused_at c.refusal (c.first + i)
  unfolding found
  hit rest e = if_true (ltb i c.count) (refused_at c.refusal (c.first + i)) rest e

  miss : (rest : Verdict) → ltb i c.count ≡ false → found c i rest ≡ rest
  unfolding found
  miss rest e = if_false (ltb i c.count) (refused_at c.refusal (c.first + i)) rest e

-- i is the first offender of the first check
module _ (c : Check) (cs : List Check) (i : ℕ) (first : i ≡ first_from c.fault 0 c.count) where
  pub check_finds : i < c.count → first_fault (c ∷ cs) ≡ refused_at c.refusal (c.first + i)
  unfolding first_fault
  check_finds h = rw (← first) (hit c i (first_fault cs) (lt-ltb i c.count h))

  pub check_passes : c.count ≤ i → first_fault (c ∷ cs) ≡ first_fault cs
  unfolding first_fault
  check_passes h = rw (← first) (miss c i (first_fault cs) (le-ltb i c.count h))

module _ (c : Check) where
  abbrev place : ℕ
  place = first_from c.fault 0 c.count

  -- a check has a first offender, or none
  clean_or : {P : Type 0} → ((i : ℕ) → FirstOffender c i → P) → (Clean c → P) → P
  clean_or f g = ⊎_elim
      (λ (q : place < c.count). f place (record {
        within = q;
        offends = first_hit c.fault 0 c.count (omega arith);
        before = λ j l. first_before c.fault 0 c.count j (omega arith) l;
      }))
      (λ (q : c.count ≤ place). g (λ i l. first_none c.fault 0 c.count (omega arith) i (omega arith) (omega arith)))
      (lt_or_le place c.count)

  module _ (cs : List Check) where
    pub offender_refuses : {i : ℕ} → FirstOffender c i → first_fault (c ∷ cs) ≡ refused_at c.refusal (c.first + i)
    offender_refuses {i} F = check_finds c cs i (first_is c.fault c.count i F.within F.offends F.before) F.within

    pub clean_passes : Clean c → first_fault (c ∷ cs) ≡ first_fault cs
    clean_passes C = check_passes c cs place refl (⊎_elim (λ q. untrue (sym (first_hit c.fault 0 c.count (omega arith)) ∙ C place q)) (λ q. q)
        (lt_or_le place c.count))

    -- what refuses is the first, if it has an offender
    refuses_as : {i at : ℕ} {why : Refusal} → FirstOffender c i → GivenAt why at (first_fault (c ∷ cs))
        → (same_number c.refusal why ≡ true) × (at ≡ c.first + i)
    refuses_as {i} {at} F G =
        let (a, b) = same_refused c.refusal G.refusal (c.first + i) at (sym (offender_refuses F) ∙ G.given) in
        (eq-eqb _ _ (ap number_of a ∙ G.number), sym b)

    -- where nothing is refused, the first has none
    passed_first : first_fault (c ∷ cs) ≡ Ok tt → Clean c × (first_fault cs ≡ Ok tt)
    passed_first e = clean_or (λ i F. refused_not c.refusal (c.first + i) (sym (offender_refuses F) ∙ e)) (λ C. (C, sym (clean_passes C) ∙ e))

passed_not : {P : Type 0} {why : Refusal} {at : ℕ} → GivenAt why at (first_fault []) → P
passed_not {at = i} G = refused_not G.refusal i (sym G.given ∙ check_none)

-- ---- a check by its refusal

-- it is the first one, or one after it
module _ (why : Refusal) (c : Check) (cs : List Check) where
  for_first : same_number c.refusal why ≡ true → (check_for why (c ∷ cs) ≡ c) × (checks_before why (c ∷ cs) ≡ [])
  unfolding check_for checks_before
  for_first e = (if_true (same_number c.refusal why) c _ e, if_true (same_number c.refusal why) [] _ e)

  for_later : same_number c.refusal why ≡ false → (check_for why (c ∷ cs) ≡ check_for why cs) × (checks_before why (c ∷ cs) ≡ c ∷ checks_before why cs)
  unfolding check_for checks_before
  for_later e = (if_false (same_number c.refusal why) c _ e, if_false (same_number c.refusal why) [] _ e)

-- where nothing is refused, no record of it offends
pub clean_for : (cs : List Check) → first_fault cs ≡ Ok tt → (why : Refusal) → Clean (check_for why cs)
unfolding check_for
clean_for [] e why = λ i l. absurd (omega arith)
clean_for (c ∷ cs) e why = let (C, r) = passed_first c cs e in either Clean (same_number c.refusal why) c (check_for why cs) C (clean_for cs r why)

-- a refusal that no check gives is not given
pub never_given_at : (cs : List Check) (why : Refusal) (place : ℕ) → among of_check why cs ≡ false → GivenAt why place (first_fault cs) → ⊥
unfolding among
never_given_at [] why place n G = passed_not G
never_given_at (c ∷ cs) why place n G = let (a, b) = or_false (same_number c.refusal why) (among of_check why cs) n in clean_or c
    (λ i F. untrue (sym (refuses_as c cs F G).0 ∙ a))
    (λ C. never_given_at cs why place b (rw (clean_passes c cs C) at G))

-- an offender, while the checks before find none, is refused
pub offended_given : (cs : List Check) (why : Refusal) (place : ℕ) → Offended why place cs → GivenAt why place (first_fault cs)
unfolding check_for
offended_given [] why place F = absurd (omega (arith, F.offender.within))
offended_given (c ∷ cs) why place F = by_test (same_number c.refusal why)
    (λ e. let (u, v) = for_first why c cs e in record {
      refusal = c.refusal;
      given = offender_refuses c cs (rw u at F.offender) ∙ ap (refused_at c.refusal) (sym (F.there ∙ ap (λ (d : Check). d.first + F.index) u));
      number = eqb-true _ _ e;
    })
    (λ e. let (u, v) = for_later why c cs e in
    let (C, r) = passed_first c (checks_before why cs) (ap first_fault (sym v) ∙ F.before) in
    rw (clean_passes c cs C)
    (offended_given cs why place (record {
      before = r;
      index = F.index;
      offender = rw u at F.offender;
      there = F.there
          ∙ ap (λ (d : Check). d.first + F.index) u;
    })))

-- and what is refused is an offender, while the checks before find none
pub given_offended : (cs : List Check) → once of_check cs ≡ true → (why : Refusal) (place : ℕ) → GivenAt why place (first_fault cs) → Offended why place cs
unfolding once
given_offended [] o why place G = passed_not G
given_offended (c ∷ cs) o why place G = let (a, b) = and_true (not (among of_check c.refusal cs)) (once of_check cs) o in clean_or c
    (λ i F. let (e, there) = refuses_as c cs F G in
    let (u, v) = for_first why c cs e in
    record { before = ap first_fault v ∙ check_none; index = i; offender = rw u F; there = there ∙ ap (λ (d : Check). d.first + i) (sym u) })
    (λ C. let G' : GivenAt why place (first_fault cs) = rw (clean_passes c cs C) at G in by_test (same_number c.refusal why)
    (λ e. absurd (never_given_at cs c.refusal place (not-true _ a) (record
    { refusal = G'.refusal; given = G'.given; number = G'.number ∙ sym (eqb-true _ _ e) })))
    (λ e. let (u, v) = for_later why c cs e in
    let F : Offended why place cs = given_offended cs b why place G' in
    record {
      before = ap first_fault v ∙ clean_passes c (checks_before why cs) C ∙ F.before;
      index = F.index;
      offender = rw u F.offender;
      there = F.there
          ∙ ap (λ (d : Check). d.first + F.index) (sym u);
    }))

-- a refusal is given at a place exactly where the checks before its own find nothing, and that is the place of the first offender of its own
pub given_at_exactly : (cs : List Check) → once of_check cs ≡ true → (why : Refusal) (place : ℕ) → GivenAt why place (first_fault cs) ↔ Offended why place cs
given_at_exactly cs o why place = (given_offended cs o why place, offended_given cs why place)

-- that it is given, by its number and place
pub number_given_at : (verdict : Verdict) (why : Refusal) (place : ℕ)
    → ((verdict_number verdict ≡ number_of why) × (verdict_place verdict ≡ place)) ↔ GivenAt why place verdict
unfolding verdict_number verdict_place
number_given_at verdict why place = (λ (e, q). go verdict e q, λ G. (ap verdict_number G.given ∙ G.number, ap verdict_place G.given))
  where
    go : (v : Verdict) → verdict_number v ≡ number_of why → verdict_place v ≡ place → GivenAt why place v
    go (Ok _) e q = absurd (omega (arith, (numbered why).0))
    go (Err f) e q = record { refusal = f.why; given = ap (refused_at f.why) q; number = e }

-- the number 0 is said only where nothing is refused
pub none_refused_at : (verdict : Verdict) → verdict_number verdict ≡ 0 → verdict ≡ Ok tt
unfolding verdict_number
none_refused_at (Ok _) e = refl
none_refused_at (Err f) e = absurd (omega (arith, (numbered f.why).0))

-- ---- checks in two parts

-- a refusal of the first checks stands, and where they find no offender those after them are asked
pub check_left : (cs ds : List Check) (why : Refusal) (place : ℕ) → first_fault cs ≡ refused_at why place
    → first_fault (cs ++ ds) ≡ refused_at why place
check_left [] ds why place e = refused_not why place (sym e ∙ check_none)
check_left (c ∷ cs) ds why place e = clean_or c
    (λ i F. offender_refuses c (cs ++ ds) F ∙ sym (offender_refuses c cs F) ∙ e)
    (λ C. clean_passes c (cs ++ ds) C ∙ check_left cs ds why place (sym (clean_passes c cs C) ∙ e))

pub check_right : (cs ds : List Check) → first_fault cs ≡ Ok tt → first_fault (cs ++ ds) ≡ first_fault ds
check_right [] ds e = refl
check_right (c ∷ cs) ds e = let (C, r) = passed_first c cs e in clean_passes c (cs ++ ds) C ∙ check_right cs ds r

-- where nothing is refused, neither part refuses
pub passed_both : (cs ds : List Check) → first_fault (cs ++ ds) ≡ Ok tt → (first_fault cs ≡ Ok tt) × (first_fault ds ≡ Ok tt)
passed_both [] ds e = (check_none, e)
passed_both (c ∷ cs) ds e =
    let (C, r) = passed_first c (cs ++ ds) e in
    let (a, b) = passed_both cs ds r in
    (clean_passes c cs C ∙ a, b)

-- a check that finds nothing where those before it find nothing may go
pub spare_check : (cs : List Check) (c : Check) (ds : List Check) → (first_fault cs ≡ Ok tt → Clean c)
    → first_fault (cs ++ c ∷ ds) ≡ first_fault (cs ++ ds)
spare_check cs c ds h = go (first_fault cs) refl
  where
    go : (v : Verdict) → first_fault cs ≡ v → first_fault (cs ++ c ∷ ds) ≡ first_fault (cs ++ ds)
    go (Ok _) e = check_right cs (c ∷ ds) e ∙ clean_passes c ds (h e) ∙ sym (check_right cs ds e)
    go (Err f) e = check_left cs (c ∷ ds) f.why f.place e ∙ sym (check_left cs ds f.why f.place e)

-- checks whose records offend alike, with the same after them
pub same_faults : (why : Refusal) (first n : ℕ) (f g : ℕ → Bool) (cs ds : List Check) → ((i : ℕ) → i < n → f i ≡ g i) → first_fault cs ≡ first_fault ds
    → first_fault ((record { refusal = why; first = first; count = n; fault = f }) ∷ cs)
    ≡ first_fault ((record { refusal = why; first = first; count = n; fault = g }) ∷ ds)
unfolding first_fault found
same_faults why first n f g cs ds h e =
    let c : Check = record { refusal = why; first = first; count = n; fault = g } in
    ap₂ (found c) (first_same f g 0 n (λ i _ l. h i (omega arith))) e

pub same_after : (cs ds es : List Check) → first_fault ds ≡ first_fault es → first_fault (cs ++ ds) ≡ first_fault (cs ++ es)
unfolding first_fault
same_after [] ds es e = e
same_after (c ∷ cs) ds es e = ap (found c (first_from c.fault 0 c.count)) (same_after cs ds es e)

-- a check of one record
pub one_finds : (t : Bool) → t ≡ true → 0 ≡ first_from (λ _. t) 0 1
one_finds t e = sym (first_stop (λ _. t) 0 0 e)

pub one_passes : (t : Bool) → t ≡ false → 1 ≡ first_from (λ _. t) 0 1
unfolding first_from
one_passes t e = sym (first_on (λ _. t) 0 0 e)
