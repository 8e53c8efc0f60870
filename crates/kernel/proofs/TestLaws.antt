-- The tests of an event as the code makes them: the first that holds refuses; a lock's owner is the task whose row it stands in, and the open sections are
-- those along the row. Assumes nothing.
use Rattle.std.specs.Prelude.{Ok, Err}
use Rattle.rules.specs.Numbers.Verdict.{Tested}
use mathlib.Core.Path.{◌≡◌, refl, sym, ◌∙◌, ap}
use mathlib.Core.Logic.{⊎_elim}
use mathlib.Core.Bool.{Bool, true, false, not, ◌&&◌, ◌||◌}
use mathlib.Core.List.{List, [], ◌∷◌}
use Prim.Native.Nat.{ℕ, zero, suc, ◌+◌, ◌-◌, ◌≤◌, ◌<◌}
use native.Mathlib.Nat.{not-suc-le-zero}
use native.Mathlib.Numerals.{add-one}
use native.Mathlib.Omega.{arith}
use lib.Dec.{eqb, ltb}
use borrow.Author.Tests.{eqb-false, eq-eqb, ne_eqb, lt-ltb, le-ltb, le-leb, lt-leb, not-true}
use Rattle.rules.specs.Numbers.Capacity.{max_accepted}
use Rattle.rules.specs.Numbers.Place.{at, any}
use Rattle.rules.specs.Numbers.Row.{newest, under, has}
use Rattle.rules.specs.Numbers.Refusal.{first_true}
use Rattle.rules.specs.Schedulers.Figures.{Figures, figures_of, holds}
use Rattle.rules.specs.Schedulers.EventRefusals.{elsewhere, not_newest, past_limit, tests_of, refusal_of}
use Rattle.rules.specs.Soundness.Sound.{SoundFigures, SoundAndSized}
use Rattle.rules.specs.declared.plan.Plan.{Plan}
use Rattle.rules.specs.declared.protocol.Protocol.{Protocol}
use Rattle.rules.specs.declared.state.State.{State}
use Rattle.rules.specs.declared.event.Event.{Event}
use Rattle.rules.specs.declared.refusal.Refusal.TheVariants.{Exhausted}
use Rattle.rules.specs.declared.refusal.Refusal.{Refusal}
use Rattle.rules.proofs.Numbers.Choice.{by_test, untrue, and_true, true_and, if_true, if_false, nots, flags}
use Rattle.rules.proofs.Numbers.Place.{any_some, some_any}
use Rattle.rules.proofs.Numbers.Row.{has_none, has_newest, has_under, has_cases}
use Rattle.rules.proofs.Schedulers.FiguresKept.{inside, holder_out}
use Rattle.rules.proofs.Schedulers.WordsKept.{owner_is, owner_some}
use Rattle.kernel.specs.Acting.{IsSoundButForUser, with_user}
use Rattle.kernel.specs.Work.{past_row, InRow}
use Rattle.kernel.proofs.WorkLaws.{row_under}

-- ---- the order of the tests

pub true_here : (t : Bool) (why : Refusal) (ts : List (Bool × Refusal)) → t ≡ true → Err why ≡ first_true ((t, why) ∷ ts)
unfolding first_true
true_here t why ts e = sym (if_true t (Err why) (first_true ts) e)

pub true_later : (t : Bool) (why : Refusal) (ts : List (Bool × Refusal)) (r : Tested) → t ≡ false → r ≡ first_true ts → r ≡ first_true ((t, why) ∷ ts)
unfolding first_true
true_later t why ts r e h = h ∙ sym (if_false t (Err why) (first_true ts) e)

pub true_none : Ok tt ≡ first_true []
unfolding first_true
true_none = refl

pub ruleset order = (true_here, true_later, true_none, nots, flags)

-- 11 comes first, then the event's own tests
module _ (p : Plan) (s : State) where
  pub exhausted : (e : Event) → max_accepted ≤ s.head.accepted → Err Exhausted ≡ refusal_of p (figures_of s) s.head.running e
  unfolding refusal_of
  exhausted e h = true_here _ _ _ (le-leb max_accepted s.head.accepted h)

  pub own_tests : (d e : Event) (t : Tested) → s.head.accepted < max_accepted → t ≡ first_true (tests_of p (figures_of s) s.head.running e) → d ≡ e
      → t ≡ refusal_of p (figures_of s) s.head.running d
  unfolding refusal_of
  own_tests d e t h g arm = rw arm (true_later _ _ _ t (lt-leb max_accepted s.head.accepted h) g)

  pub no_tests : (d : Event) → s.head.accepted < max_accepted → d ≡ Event.Tick → Ok tt ≡ refusal_of p (figures_of s) s.head.running d
  unfolding tests_of
  no_tests d h arm = own_tests d Event.Tick (Ok tt) h true_none arm

-- the newest of a row is of another lock, or there is none
module _ (f : Figures) (r l : ℕ) where
  pub newest_none : at f.depth r ≡ 0 → eqb (at f.depth r) 0 ≡ not_newest f r l
  unfolding not_newest
  newest_none e = rw (eq-eqb (at f.depth r) 0 e)

  pub newest_other : (x : ℕ) → (at f.depth r ≡ 0 → ⊥) → x ≡ newest (at f.takes r) → not (eqb x l) ≡ not_newest f r l
  unfolding not_newest
  newest_other x n e = rw (ne_eqb (at f.depth r) 0 n, e)

-- ---- along the row: what is left to ask

module _ (limit units : List ℕ) (a m row k : ℕ) where
  pub record WithinSoFar (left c : ℕ) : Type 0 where
    pub locks : InRow m left c
    pub rest : past_row limit units a left c ≡ past_row limit units a row k

  pub within_next : (left c l u : ℕ) → WithinSoFar left c → 0 < c → l ≡ newest left → at units l + a ≤ at limit l → u ≡ under left → WithinSoFar u (c - 1)
  unfolding past_row
  within_next left zero l u e h g b r = absurd (not-suc-le-zero h)
  within_next left (suc c) l u e h g b r =
      let o : suc c - 1 ≡ c = omega arith in
      let t : ltb (at limit (newest left)) (at units (newest left) + a) ≡ false = rw (← g) (le-ltb (at limit l) (at units l + a) b) in rw r (record {
        locks = row_under m left (suc c) e.locks h;
        rest = ap (past_row limit units a (under left)) o ∙ sym (ap (λ v. v || past_row limit units a (under left) c) t) ∙ e.rest;
      })

  pub within_fails : (left c l : ℕ) → WithinSoFar left c → 0 < c → l ≡ newest left → at limit l < at units l + a → true ≡ past_row limit units a row k
  unfolding past_row
  within_fails left zero l e h g b = absurd (not-suc-le-zero h)
  within_fails left (suc c) l e h g b =
      let t : ltb (at limit (newest left)) (at units (newest left) + a) ≡ true = rw (← g) (lt-ltb (at limit l) (at units l + a) b) in
      sym (ap (λ v. v || past_row limit units a (under left) c) t) ∙ e.rest

  pub within_ends : (left c : ℕ) → WithinSoFar left c → c ≤ 0 → false ≡ past_row limit units a row k
  unfolding past_row
  within_ends left zero e h = e.rest
  within_ends left (suc c) e h = absurd (not-suc-le-zero h)

-- ---- the owner and the open sections

-- two tests that hold exactly together are one
both : (s t : Bool) → (s ≡ true → t ≡ true) → (t ≡ true → s ≡ true) → s ≡ t
both true t f g = sym (f refl)
both false true f g = g refl
both false false f g = refl

-- ---- along the row

module _ (limit units : List ℕ) (a : ℕ) where
  abbrev over : ℕ → Bool
  over l = ltb (at limit l) (at units l + a)

  past_some : (row k : ℕ) → past_row limit units a row k ≡ true → (l : ℕ) × (has row k l ≡ true) × (over l ≡ true)
  unfolding past_row
  past_some row zero e = untrue (sym e)
  past_some row (suc k) e = by_test (over (newest row))
      (λ t. (newest row, has_newest row k, t))
      (λ t. let (l, h, o) = past_some (under row) k (rw t at e) in (l, has_under row k l h, o))

  pub some_past : (row k l : ℕ) → has row k l ≡ true → over l ≡ true → past_row limit units a row k ≡ true
  unfolding past_row
  some_past row zero l h o = untrue (sym h ∙ has_none row l)
  some_past row (suc k) l h o = ⊎_elim
      (λ (e : newest row ≡ l). ap (λ t. t || past_row limit units a (under row) k) (ap over e ∙ o))
      (λ (e : has (under row) k l ≡ true). by_test (over (newest row)) (λ t. rw t) (λ t. rw t (some_past (under row) k l e o)))
      (has_cases row k l h)

module _ {pr : Protocol} (p : Plan) (s : State) (S : SoundAndSized pr p s) where
  abbrev f : Figures
  f = figures_of s

  abbrev r : ℕ
  r = s.head.running

  figured : SoundFigures p f
  figured = S.sound.figures

  -- the owner of lock l
  module _ (l : ℕ) where
    owned : (x : ℕ) → holds f x l ≡ true → at s.owner l ≡ suc x
    owned x h = S.sound.words.owner l ∙ owner_is f l x p.tasks (inside figured x (holder_out figured x l h)) h (λ y q. figured.alone y x l q h)

    owns : (x : ℕ) → at s.owner l ≡ suc x → holds f x l ≡ true
    owns x e = (owner_some f l p.tasks x (sym (S.sound.words.owner l) ∙ e)).1

    -- the owner is another task exactly where another task has it open
    pub other_same : (not (eqb (at s.owner l) 0) && not (eqb (at s.owner l) (r + 1))) ≡ elsewhere f p.tasks r l
    unfolding elsewhere
    other_same = both (not (eqb (at s.owner l) 0) && not (eqb (at s.owner l) (r + 1))) (any (λ x. not (eqb x r) && holds f x l) p.tasks)
        (λ h. let (a, b) = and_true (not (eqb (at s.owner l) 0)) (not (eqb (at s.owner l) (r + 1))) h in go (at s.owner l) refl a b)
        (λ h. let (x, b, q) = any_some (λ x. not (eqb x r) && holds f x l) p.tasks h in
        let (n, o) = and_true (not (eqb x r)) (holds f x l) q in
        true_and (not (eqb (at s.owner l) 0)) (not (eqb (at s.owner l) (r + 1))) (ap not (ne_eqb (at s.owner l) 0 (λ z. omega (arith, owned x o))))
        (ap not (ne_eqb (at s.owner l) (r + 1) (λ z. eqb-false x r (not-true (eqb x r) n) (omega (arith, owned x o))))))
      where
        go : (o : ℕ) → at s.owner l ≡ o → not (eqb (at s.owner l) 0) ≡ true → not (eqb (at s.owner l) (r + 1)) ≡ true
            → any (λ x. not (eqb x r) && holds f x l) p.tasks ≡ true
        go zero e h n = untrue (sym h ∙ ap not (eq-eqb (at s.owner l) 0 e))
        go (suc x) e h n =
            let o : holds f x l ≡ true = owns x e in
            some_any (λ x. not (eqb x r) && holds f x l) p.tasks x (inside figured x (holder_out figured x l o))
            (true_and (not (eqb x r)) (holds f x l)
            (ap not (ne_eqb x r (λ q. eqb-false _ _ (not-true (eqb (at s.owner l) (r + 1)) n) (e ∙ ap suc q ∙ sym (add-one r))))) o)

  pub past_same : (a : ℕ) → past_row p.limit s.units a (at s.takes r) (at s.depth r) ≡ past_limit p f r a
  unfolding past_limit holds
  past_same a = both (past_row p.limit s.units a (at s.takes r) (at s.depth r)) (any g p.locks)
      (λ h. let (l, q, o) = past_some p.limit s.units a (at s.takes r) (at s.depth r) h in
      some_any g p.locks l (known_lock l q) (true_and (has (at s.takes r) (at s.depth r) l) (ltb (at p.limit l) (at s.units l + a)) q o))
      (λ h. let (l, b, q) = any_some g p.locks h in
      let (u, o) = and_true (has (at s.takes r) (at s.depth r) l) (ltb (at p.limit l) (at s.units l + a)) q in
      some_past p.limit s.units a (at s.takes r) (at s.depth r) l u o)
    where
      g : ℕ → Bool
      g l = has (at s.takes r) (at s.depth r) l && ltb (at p.limit l) (at s.units l + a)

      known_lock : (l : ℕ) → has (at s.takes r) (at s.depth r) l ≡ true → l < p.locks
      known_lock l q = figured.known r l q

-- ---- of a state that is sound but for its user word

module _ (p : Plan) (s : State) (I : IsSoundButForUser p s) where
  unowned : (o : ℕ) → o ≡ 0 → not (eqb o 0) ≡ (not (eqb o 0) && not (eqb o (s.head.running + 1)))
  unowned o e = rw (eq-eqb o 0 e)

  owned_by : (o : ℕ) → (o ≡ 0 → ⊥) → not (eqb o (s.head.running + 1)) ≡ (not (eqb o 0) && not (eqb o (s.head.running + 1)))
  owned_by o n = rw (ne_eqb o 0 n)

  -- the owner's byte says whether another task has the lock open
  pub owner_none : (l : ℕ) → at s.owner l ≡ 0 → not (eqb (at s.owner l) 0) ≡ elsewhere (figures_of s) p.tasks s.head.running l
  owner_none l e = unowned (at s.owner l) e ∙ other_same p (with_user s I.user) I.sound l

  pub owner_some_other : (l : ℕ) → (at s.owner l ≡ 0 → ⊥) → not (eqb (at s.owner l) (s.head.running + 1)) ≡ elsewhere (figures_of s) p.tasks s.head.running l
  owner_some_other l n = owned_by (at s.owner l) n ∙ other_same p (with_user s I.user) I.sound l

  pub row_known : InRow p.locks (at s.takes s.head.running) (at s.depth s.head.running)
  unfolding holds
  row_known = record { known = λ l h. I.sound.sound.figures.known s.head.running l h }

  -- the open sections are those along the row
  pub past_none : (a : ℕ) → false ≡ past_row p.limit s.units a (at s.takes s.head.running) (at s.depth s.head.running)
      → false ≡ past_limit p (figures_of s) s.head.running a
  past_none a e = e ∙ past_same p (with_user s I.user) I.sound a

  pub past_some_section : (a : ℕ) → true ≡ past_row p.limit s.units a (at s.takes s.head.running) (at s.depth s.head.running)
      → true ≡ past_limit p (figures_of s) s.head.running a
  past_some_section a e = e ∙ past_same p (with_user s I.user) I.sound a
