-- The ways through an accepted work: the delays of the tasks, and the sections along the row. Assumes nothing.
use Rattle.std.specs.Prelude.{if◌then◌else◌}
use mathlib.Core.Path.{◌≡◌, refl, sym, ◌∙◌, ap, ap₂}
use mathlib.Core.Logic.{◌≢◌, ⊎_elim}
use mathlib.Core.Bool.{Bool, true, false, ◌&&◌, ◌||◌}
use mathlib.Core.List.{List}
use Prim.Native.Nat.{ℕ, zero, suc, ◌+◌, ◌-◌, ◌≤◌, ◌<◌, min}
use native.Mathlib.Nat.{not-suc-le-zero}
use native.Mathlib.Omega.{arith}
use lib.Dec.{ltb}
use lib.ListN.{length, set, length-set}
use lib.Seq.{get_or-set_same, get_or-set_other, ext_get_or}
use borrow.Author.Tests.{ne_eqb, ltb-false}
use Rattle.rules.specs.Numbers.Capacity.{max_locks, max_delay}
use Rattle.rules.specs.Numbers.Place.{at, renewed}
use Rattle.rules.specs.Numbers.Row.{newest, under, has}
use Rattle.rules.specs.Schedulers.Figures.{Figures, figures_of, holds}
use Rattle.rules.specs.Schedulers.FiguresAfter.{delayed, charged}
use Rattle.rules.specs.Schedulers.Lazy.{best_kept}
use Rattle.rules.specs.Schedulers.EventRefusals.{past_limit}
use Rattle.rules.specs.declared.plan.Plan.{Plan}
use Rattle.rules.specs.declared.state.State.{State}
use Rattle.rules.specs.declared.event.Event.{Event}
use Rattle.rules.proofs.Numbers.Choice.{if_true, if_false, by_test, either, not_so, untrue, true_and, at_or, lt_or_le}
use Rattle.rules.proofs.Numbers.Place.{RenewedSoFar, renewed_next, renewed_rest, renewed_at, renewed_same, length_renewed, some_any}
use Rattle.rules.proofs.Schedulers.Rules.{delayed_same}
use Rattle.rules.proofs.Numbers.Row.{has_none, has_suc, has_newest, has_under}
use Rattle.rules.proofs.Books.Obeyed.{few_locks}
use Rattle.rules.proofs.Schedulers.Passed.{allowed}
use Rattle.kernel.specs.Acting.{Accepts}
use Rattle.kernel.specs.Ready.{WorkReady}
use Rattle.kernel.specs.Work.{waited_by, bumped, charged_row, InRow, Laden}

-- ---- a task's delay

module _ (y q b d a : ℕ) where
  pub waits_more : (ltb 0 y && ltb b q) ≡ true → (more : ℕ) → more ≡ min max_delay (d + a) → more ≡ waited_by y q b d a
  unfolding waited_by
  waits_more t more e = e ∙ sym (if_true (ltb 0 y && ltb b q) (min max_delay (d + a)) d t)

  pub waits_same : (ltb 0 y && ltb b q) ≡ false → d ≡ waited_by y q b d a
  unfolding waited_by
  waits_same t = sym (if_false (ltb 0 y && ltb b q) (min max_delay (d + a)) d t)

-- the loop over the tasks writes what each waits; a place that it comes to still holds what it held
module _ (p : Plan) (s : State) (a : ℕ) where
  abbrev waited : ℕ → ℕ
  waited = delayed p (figures_of s) s.head.running a

  abbrev pub WaitedSoFar : ℕ → State → Type 0
  WaitedSoFar t now = (now ≡ record s { delay = now.delay }) × RenewedSoFar s.delay waited p.tasks t now.delay

  pub waited_next : (t v : ℕ) (now : State) → WaitedSoFar t now → t < p.tasks
      → v ≡ waited_by (at now.released t) (at p.base t) (at p.base s.head.running) (at now.delay t) a
      → WaitedSoFar (t + 1) (record now { delay = set now.delay t v })
  unfolding delayed waited_by
  waited_next t v now (e, h) l g = (
    ap (λ (x : State). record x { delay = set now.delay t v }) e,
    renewed_next s.delay waited p.tasks t v now.delay h l
        (g ∙ ap₂ (λ y d. waited_by y (at p.base t) (at p.base s.head.running) d a) (ap (λ (x : State). at x.released t) e)
        (ap (λ zs. at zs t) h.1 ∙ renewed_rest s.delay waited t t 0 (omega arith))),
  )

-- nobody waits more where nothing is kept above the running task's base
pub waits_nobody : (p : Plan) (s : State) (a : ℕ) → WorkReady p s → best_kept s.kept p.tasks ≤ at p.base s.head.running
    → s ≡ record s { delay = renewed s.delay (delayed p (figures_of s) s.head.running a) p.tasks }
waits_nobody p s a R h = ap (λ d. record s { delay = d }) (sym (renewed_same s.delay (delayed p (figures_of s) s.head.running a) p.tasks
    (λ x l. delayed_same p (figures_of s) s.head.running a x (λ c. omega (arith, R.waiting x c.out c.lower, c.lower)))))

module _ {p : Plan} {s : State} {a : ℕ} (A : Accepts p s (Event.Work a)) where
  -- the open sections have room for a units more, since none of them would pass its limit
  laden : Laden p.locks s.units a (at s.takes s.head.running) (at s.depth s.head.running)
  unfolding holds past_limit
  laden = record {
    known = λ l h. A.sound.sound.figures.known s.head.running l h;
    room = λ l h. omega (arith, ltb-false (at p.limit l) (at s.units l + a) (within l h), A.sound.sound.plan.limit_bytes l);
  }
    where
      g : ℕ → Bool
      g l = has (at s.takes s.head.running) (at s.depth s.head.running) l && ltb (at p.limit l) (at s.units l + a)

      within : (l : ℕ) → has (at s.takes s.head.running) (at s.depth s.head.running) l ≡ true → ltb (at p.limit l) (at s.units l + a) ≡ false
      within l h = not_so (ltb (at p.limit l) (at s.units l + a)) (λ o. untrue
          (sym (some_any g p.locks l (A.sound.sound.figures.known s.head.running l h) (true_and _ _ h o)) ∙ (allowed p (figures_of s) s.head.running (Event.Work a) A.passed).within))

-- ---- the sections along the row

-- what a row of locks below m is of
module _ (m row : ℕ) where
  pub row_newest : (k : ℕ) → InRow m row k → 0 < k → newest row < m
  row_newest zero I o = absurd (not-suc-le-zero o)
  row_newest (suc k) I o = I.known (newest row) (has_newest row k)

  pub row_under : (k : ℕ) → InRow m row k → 0 < k → InRow m (under row) (k - 1)
  row_under zero I o = absurd (not-suc-le-zero o)
  row_under (suc k) I o = let q : suc k - 1 ≡ k = omega arith in
      rw q (record { known = λ l h. I.known l (has_under row k l h) })

-- the loop: what is left to charge
module _ (units₀ : List ℕ) (a row k : ℕ) where
  pub record ChargedSoFar (units : List ℕ) (left c : ℕ) : Type 0 where
    pub locks : InRow max_locks left c
    pub rest : charged_row units a left c ≡ charged_row units₀ a row k

  -- `older` is whether an older take of the lock counts
  pub charge_next : (units units₂ : List ℕ) (left c l u : ℕ) (older : Bool) → ChargedSoFar units left c → 0 < c → l ≡ newest left → u ≡ under left
      → older ≡ has u (c - 1) l → units₂ ≡ bumped units older l a → ChargedSoFar units₂ u (c - 1)
  unfolding charged_row
  charge_next units units₂ left zero l u older e h g r t q = absurd (not-suc-le-zero h)
  charge_next units units₂ left (suc c) l u older e h g r t q =
      let o : suc c - 1 ≡ c = omega arith in
      let b : older ≡ has (under left) c (newest left) = t ∙ ap₂ (λ v j. has v j l) r o ∙ ap (has (under left) c) g in rw r (record {
        locks = row_under max_locks left (suc c) e.locks h;
        rest = ap₂ (λ us j. charged_row us a (under left) j) (q ∙ ap₂ (λ v x. bumped units v x a) b g) o ∙ e.rest;
      })

  pub charge_ends : (units : List ℕ) (left c : ℕ) → ChargedSoFar units left c → c ≤ 0 → units ≡ charged_row units₀ a row k
  unfolding charged_row
  charge_ends units left zero e h = e.rest
  charge_ends units left (suc c) e h = absurd (not-suc-le-zero h)

-- one section: an older take counts it, or it has a units more; a place past the end is not written
module _ (units : List ℕ) (older : Bool) (l a : ℕ) where
  pub bump_older : older ≡ true → units ≡ bumped units older l a
  unfolding bumped
  bump_older e = sym (if_true older units (set units l (min max_delay (at units l + a))) e)

  pub bump_more : (v : ℕ) → older ≡ false → v ≡ min max_delay (at units l + a) → set units l v ≡ bumped units older l a
  unfolding bumped
  bump_more v e q = ap (set units l) q ∙ sym (if_false older units (set units l (min max_delay (at units l + a))) e)

  pub length_bumped : length (bumped units older l a) ≡ length units
  unfolding bumped
  length_bumped = either (λ us. length us ≡ length units) older units (set units l (min max_delay (at units l + a))) refl
      (length-set units l (min max_delay (at units l + a)))

-- what the charge comes to: each section of the row has a units more
module _ (m a : ℕ) where
  -- after one lock's section
  one : List ℕ → ℕ → ℕ → List ℕ
  one units row k = bumped units (has (under row) k (newest row)) (newest row) a

  -- where an older take counts it, it has not changed, and neither has any other lock's
  one_same : (units : List ℕ) (row k : ℕ) → has (under row) k (newest row) ≡ true → one units row k ≡ units
  unfolding one
  one_same units row k e = sym (bump_older units (has (under row) k (newest row)) (newest row) a e)

  one_more : (units : List ℕ) (row k : ℕ) → has (under row) k (newest row) ≡ false
      → one units row k ≡ set units (newest row) (min max_delay (at units (newest row) + a))
  unfolding one
  one_more units row k e =
      sym (bump_more units (has (under row) k (newest row)) (newest row) a (min max_delay (at units (newest row) + a)) e refl)

  one_other : (units : List ℕ) (row k l : ℕ) → l ≢ newest row → at (one units row k) l ≡ at units l
  one_other units row k l n = by_test (has (under row) k (newest row))
      (λ e. ap (λ us. at us l) (one_same units row k e))
      (λ e. ap (λ us. at us l) (one_more units row k e) ∙ get_or-set_other units (newest row) l (min max_delay (at units (newest row) + a)) 0 n)

  -- what the rest of the row has, has not changed yet
  one_rest : (units : List ℕ) (row k l : ℕ) → has (under row) k l ≡ true → at (one units row k) l ≡ at units l
  one_rest units row k = at_or (λ l. has (under row) k l ≡ true → at (one units row k) l ≡ at units l) (newest row)
      (λ e. ap (λ us. at us (newest row)) (one_same units row k e)) (λ l n _. one_other units row k l n)

  rest : (units : List ℕ) (row k : ℕ) → Laden m units a row (suc k) → Laden m (one units row k) a (under row) k
  rest units row k L = record {
    known = λ l h. L.known l (has_under row k l h);
    room = λ l h. rw (one_rest units row k l h) (L.room l (has_under row k l h));
  }

  -- after that and the rest of the row
  with_rest : (units : List ℕ) (row k : ℕ) → m ≤ length units → Laden m units a row (suc k)
      → (after : List ℕ) → ((l : ℕ) → at after l ≡ (if has (under row) k l then at (one units row k) l + a else at (one units row k) l))
      → (l : ℕ) → at after l ≡ (if has row (suc k) l then at units l + a else at units l)
  with_rest units row k f L after next l = by_test (has (under row) k l)
      (λ e. next l ∙ if_true (has (under row) k l) _ _ e ∙ ap (λ u. u + a) (one_rest units row k l e)
      ∙ sym (if_true (has row (suc k) l) (at units l + a) (at units l) (has_under row k l e)))
      (λ e. next l ∙ if_false (has (under row) k l) _ _ e ∙ at_or (λ l. has (under row) k l ≡ false
      → at (one units row k) l ≡ (if has row (suc k) l then at units l + a else at units l)) (newest row) here other l e)
    where
      here : has (under row) k (newest row) ≡ false
          → at (one units row k) (newest row) ≡ (if has row (suc k) (newest row) then at units (newest row) + a else at units (newest row))
      here e =
          ap (λ us. at us (newest row)) (one_more units row k e)
          ∙ get_or-set_same units (newest row) (min max_delay (at units (newest row) + a)) 0 (omega (arith, L.known (newest row) (has_newest row k)))
          ∙ omega (arith, L.room (newest row) (has_newest row k))
          ∙ sym (if_true (has row (suc k) (newest row)) (at units (newest row) + a) (at units (newest row)) (has_newest row k))

      other : (l : ℕ) → l ≢ newest row → has (under row) k l ≡ false
          → at (one units row k) l ≡ (if has row (suc k) l then at units l + a else at units l)
      other l n e =
          one_other units row k l n
          ∙ sym (if_false (has row (suc k) l) (at units l + a) (at units l)
          (has_suc row k l ∙ ap₂ (λ s t. s || t) (ne_eqb (newest row) l (λ q. n (sym q))) e))

  charged_at : (units : List ℕ) (row k : ℕ) → m ≤ length units → Laden m units a row k → (l : ℕ)
      → at (charged_row units a row k) l ≡ (if has row k l then at units l + a else at units l)
  unfolding charged_row one
  charged_at units row zero f L l = sym (if_false (has row 0 l) (at units l + a) (at units l) (has_none row l))
  charged_at units row (suc k) f L l =
      with_rest units row k f L (charged_row (one units row k) a (under row) k)
      (charged_at (one units row k) (under row) k (omega (arith, length_bumped units (has (under row) k (newest row)) (newest row) a)) (rest units row k L)) l

  pub length_charged : (units : List ℕ) (row k : ℕ) → length (charged_row units a row k) ≡ length units
  unfolding charged_row
  length_charged units row zero = refl
  length_charged units row (suc k) = length_charged (bumped units (has (under row) k (newest row)) (newest row) a) (under row) k
      ∙ length_bumped units (has (under row) k (newest row)) (newest row) a

  pub charged_row_lem : (f : Figures) (r : ℕ) → m ≤ length f.units → Laden m f.units a (at f.takes r) (at f.depth r)
      → charged_row f.units a (at f.takes r) (at f.depth r) ≡ renewed f.units (charged f r a) m
  unfolding charged holds
  charged_row_lem f r h L = ext_get_or 0 (charged_row f.units a row k) (renewed f.units g m)
      (length_charged f.units row k ∙ sym (length_renewed f.units g m))
      (λ l b. charged_at f.units row k h L l ∙ ⊎_elim
      (λ (q : l < m). sym (renewed_at f.units g m l 0 q (omega arith)))
      (λ (q : m ≤ l). if_false (has row k l) (at f.units l + a) (at f.units l) (not_so (has row k l) (λ e. omega (arith, L.known l e)))
      ∙ sym (renewed_rest f.units g m l 0 q))
      (lt_or_le l m))
    where
      row : ℕ
      row = at f.takes r

      k : ℕ
      k = at f.depth r

      g : ℕ → ℕ
      g = charged f r a

pub charges : {p : Plan} {s : State} {a : ℕ} → Accepts p s (Event.Work a)
    → charged_row s.units a (at s.takes s.head.running) (at s.depth s.head.running) ≡ renewed s.units (charged (figures_of s) s.head.running a) p.locks
charges {p} {s} {a} A = charged_row_lem p.locks a (figures_of s) s.head.running (rw A.sound.figures_sized.units (few_locks A.sound.sound.plan)) (laden A)
