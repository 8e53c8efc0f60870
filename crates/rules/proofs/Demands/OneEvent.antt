-- What one accepted event of the eager scheduler does to a job, a row of takes, the units of a section, who holds up whom, and a delay. Assumes nothing.
use Rattle.std.specs.Prelude.{if◌then◌else◌}
use mathlib.Core.Path.{◌≡◌, refl, sym, ◌∙◌, ap, ap₂, subst}
use mathlib.Core.Logic.{◌≢◌}
use mathlib.Core.Bool.{Bool, true, false, ◌&&◌}
use Prim.Native.Nat.{ℕ, ◌+◌, ◌≤◌, ◌<◌}
use native.Mathlib.Omega.{arith}
use lib.Dec.{ltb, eqb}
use lib.Seq.{get_or-set_other}
use borrow.Author.Tests.{ltb-true, eqb-true, eqb-false, lt-ltb, le-ltb, eq-eqb, ne_eqb}
use Rattle.rules.specs.Numbers.Capacity.{max_accepted}
use Rattle.rules.specs.Numbers.Place.{at}
use Rattle.rules.specs.Books.Event.{kind_of, amount_of}
use Rattle.rules.specs.Numbers.Row.{priority}
use Rattle.rules.specs.Books.Plan.{Obeys}
use Rattle.rules.specs.Schedulers.Figures.{Figures, holds, priority_of}
use Rattle.rules.specs.Schedulers.FiguresAfter.{delayed, figures_after}
use Rattle.rules.specs.Schedulers.Eager.{running_of}
use Rattle.rules.specs.Demands.History.{delay_next}
use Rattle.rules.specs.Demands.Job.{takes_lock, gives_back}
use Rattle.rules.specs.declared.plan.Plan.{Plan}
use Rattle.rules.specs.declared.event.Event.{Event}
use Rattle.rules.specs.declared.event.Event.TheVariants.{Release, Acquire, Unlock, Work, Finish, Tick}
use Rattle.rules.proofs.Numbers.Choice.{if_true, if_false, by_test, either, untrue, not_so, and_true, true_and, at_or}
use Rattle.rules.proofs.Numbers.Row.{copies}
use Rattle.rules.proofs.Schedulers.Passed.{Workable, Allowed}
use Rattle.rules.proofs.Schedulers.FiguresKept as SoundFigures
use Rattle.rules.proofs.Schedulers.FiguresKept.{Stage}
use Rattle.rules.proofs.Schedulers.Rules.{base_priority, charged_open, charged_closed, Counts, delayed_more, delayed_same}
use Rattle.rules.proofs.Demands.Urgency.{Best}
use Rattle.rules.proofs.Demands.EagerRuled.{standing, Ruled, stage, runs_best, runner_out}
use Rattle.rules.proofs.Demands.Oldest.{oldest, oldest_of}
use Rattle.rules.proofs.Demands.Late.{Late, Blocks, lock_by, take_oldest, give_oldest, work_within, bound_small}

-- events of different kinds are different
pub other_kind : {P : Type 0} (e d : Event) → kind_of e ≢ kind_of d → e ≡ d → P
other_kind e d n q = absurd (n (ap kind_of q))

-- an event that works n units is work of n
pub works : (e : Event) (n : ℕ) → 0 < n → amount_of e ≡ n → e ≡ Work n
unfolding amount_of
works (Release t) n h q = absurd (omega arith)
works (Acquire l) n h q = absurd (omega arith)
works (Unlock l) n h q = absurd (omega arith)
works (Work a) n h q = ap Work q
works Finish n h q = absurd (omega arith)
works Tick n h q = absurd (omega arith)

-- where a row stays, so does what it holds up
plain_same : (p : Plan) (f g : Figures) (x t : ℕ) → at g.depth x ≡ at f.depth x → at g.takes x ≡ at f.takes x → at p.base t ≤ priority_of p g x
    → (at p.base t ≤ priority_of p f x) × (lock_by p g x t ≡ lock_by p f x t)
unfolding priority_of oldest_of
plain_same p f g x t h l u = (
  subst (λ v. at p.base t ≤ v) (ap₂ (priority (at p.ceiling) (at p.base x)) l h) u,
  ap₂ (oldest (at p.ceiling) (at p.base x) (at p.base t)) l h,
)

nothing : (b : Bool) (c : ℕ) → c ≡ c + (if b then 0 else 0)
nothing b c = either (λ v. c ≡ c + v) b 0 0 (omega arith) (omega arith)

no_more : (b : Bool) → ◌≡◌ {A = ℕ} (if b && false then 1 else 0) 0
no_more true = refl
no_more false = refl

-- how often lock l stands in the row of task x
abbrev pub in_row : Figures → ℕ → ℕ → ℕ
in_row g x l = copies (at g.takes x) (at g.depth x) l

module _ {p : Plan} (O : Obeys p) {f : Figures} (R : Ruled p f) (room : f.accepted < max_accepted) where
  abbrev r : ℕ
  r = running_of p f

  abbrev A : Stage p f
  A = stage O R room

  -- ---- a job

  -- a released task stays so unless it finishes
  pub stays_out : (e : Event) → Allowed p f r e → (t : ℕ) → 0 < at f.released t → (e ≡ Finish → r ≡ t → ⊥) → 0 < at (figures_after p f r e).released t
  unfolding figures_after
  stays_out (Release y) o t u n = omega (arith, SoundFigures.release_others A o r t (λ q. omega (arith, o.resting, ap (at f.released) q)))
  stays_out (Acquire l) o t u n = u
  stays_out (Unlock l) o t u n = u
  stays_out (Work a) o t u n = u
  stays_out Finish o t u n = omega (arith, get_or-set_other f.released r t 0 0 (λ q. n refl (sym q)))
  stays_out Tick o t u n = u

  -- ---- takes

  -- a row that stays, of a task that does not run, has neither a take more nor one less
  row_others : (g : Figures) (y l : ℕ) (given taken : Bool) → y ≢ r → at g.depth y ≡ at f.depth y → at g.takes y ≡ at f.takes y
      → in_row g y l + (if eqb r y && given then 1 else 0) ≡ in_row f y l + (if eqb r y && taken then 1 else 0)
  row_others g y l given taken n d t = rw (ne_eqb r y (λ q. n (sym q)), t, d)

  -- an event adds a take where it is one, and leaves one less where it gives one back; the rows of the others stay
  pub row_counts : (e : Event) → Allowed p f r e → (x l : ℕ)
      → in_row (figures_after p f r e) x l + (if eqb r x && gives_back l e then 1 else 0) ≡ in_row f x l + (if eqb r x && takes_lock l e then 1 else 0)
  unfolding figures_after takes_lock gives_back
  row_counts (Release y) o x l = rw (no_more (eqb r x))
  row_counts (Acquire v) o x l = at_or (λ x. in_row (figures_after p f r (Acquire v)) x l + (if eqb r x && false then 1 else 0)
      ≡ in_row f x l + (if eqb r x && eqb v l then 1 else 0)) r
      (rw (no_more (eqb r r), eq-eqb r r refl) (omega (arith, SoundFigures.take_copies A (runner_out O R o.runs) o l)))
      (λ y n. row_others (figures_after p f r (Acquire v)) y l false (eqb v l) n (SoundFigures.take_helds A (runner_out O R o.runs) o y n)
      (SoundFigures.take_rows A (runner_out O R o.runs) o y n)) x
  row_counts (Unlock v) o x l = at_or (λ x. in_row (figures_after p f r (Unlock v)) x l + (if eqb r x && eqb v l then 1 else 0)
      ≡ in_row f x l + (if eqb r x && false then 1 else 0)) r
      (rw (no_more (eqb r r), eq-eqb r r refl) (omega (arith, SoundFigures.give_copies A (runner_out O R o.runs) o l)))
      (λ y n. row_others (figures_after p f r (Unlock v)) y l (eqb v l) false n (SoundFigures.give_helds A (runner_out O R o.runs) o y n)
      (SoundFigures.give_rows A (runner_out O R o.runs) o y n)) x
  row_counts (Work a) o x l = rw (no_more (eqb r x))
  row_counts Finish o x l = rw (no_more (eqb r x))
  row_counts Tick o x l = rw (no_more (eqb r x))

  -- ---- units

  -- of a lock that task x has open before an event and after it, the units grow by what x works
  pub units_one : (e : Event) → Allowed p f r e → (x l : ℕ) → holds f x l ≡ true → holds (figures_after p f r e) x l ≡ true
      → at (figures_after p f r e).units l ≡ at f.units l + (if eqb r x then amount_of e else 0)
  unfolding figures_after amount_of
  units_one (Release y) o x l h k = nothing (eqb r x) (at f.units l)
  units_one (Acquire v) o x l h k = nothing (eqb r x) (at f.units l)
  units_one (Unlock v) o x l h k = at_or (λ x. holds f x l ≡ true → holds g x l ≡ true → at g.units l ≡ at f.units l + (if eqb r x then 0 else 0)) r
      (λ h k. SoundFigures.give_section A out o l k ∙ nothing (eqb r r) (at f.units l))
      (λ y n h k. SoundFigures.give_units A out o l
      (λ q. n (R.figured.alone y r l h (subst (λ v. holds f r v ≡ true) (sym q) (SoundFigures.give_mine A out o))))
      ∙ nothing (eqb r y) (at f.units l)) x h k
    where
      g : Figures
      g = figures_after p f r (Unlock v)

      out : 0 < at f.released r
      out = runner_out O R o.runs
  units_one (Work a) o x l h k = at_or (λ x. holds f x l ≡ true → holds g x l ≡ true → at g.units l ≡ at f.units l + (if eqb r x then a else 0)) r
      (λ h k. SoundFigures.work_units A out o l ∙ charged_open f r a l h ∙ ap (λ v. at f.units l + v) (sym (if_true (eqb r r) a 0 (eq-eqb r r refl))))
      (λ y n h k. omega (
        arith,
        SoundFigures.work_units A out o l,
        charged_closed f r a l (not_so (holds f r l) (λ m. n (R.figured.alone y r l h m))),
        if_false (eqb r y) a 0 (ne_eqb r y (λ q. n (sym q))),
      )) x h k
    where
      g : Figures
      g = figures_after p f r (Work a)

      out : 0 < at f.released r
      out = runner_out O R o.runs
  units_one Finish o x l h k = nothing (eqb r x) (at f.units l)
  units_one Tick o x l h k = nothing (eqb r x) (at f.units l)

  -- ---- who holds up whom

  -- who is urgent enough to hold up a released task t afterwards was so before, by the same lock
  pub was_urgent : (e : Event) → Allowed p f r e → (t x : ℕ) → 0 < at f.released t → at p.base t ≤ priority_of p (figures_after p f r e) x
      → (at p.base t ≤ priority_of p f x) × (lock_by p (figures_after p f r e) x t ≡ lock_by p f x t)
  unfolding figures_after
  was_urgent (Release y) o t x u h = plain_same p f (figures_after p f r (Release y)) x t refl refl h
  was_urgent (Acquire v) o t x u h = at_or (λ x. at p.base t ≤ priority_of p g x → (at p.base t ≤ priority_of p f x) × (lock_by p g x t ≡ lock_by p f x t)) r
      (λ h. let k : at p.base t ≤ priority_of p f r = omega (arith, base_priority p f t, b.top t u) in (k, take_oldest A b.out o (at p.base t) k))
      (λ y n h. plain_same p f g y t (SoundFigures.take_helds A b.out o y n) (SoundFigures.take_rows A b.out o y n) h) x h
    where
      g : Figures
      g = figures_after p f r (Acquire v)

      b : Best (standing p f) r
      b = runs_best O R o.runs
  was_urgent (Unlock v) o t x u h = at_or (λ x. at p.base t ≤ priority_of p g x → (at p.base t ≤ priority_of p f x) × (lock_by p g x t ≡ lock_by p f x t)) r
      (λ h. (omega (arith, base_priority p f t, b.top t u), give_oldest A b.out o (at p.base t) h))
      (λ y n h. plain_same p f g y t (SoundFigures.give_helds A b.out o y n) (SoundFigures.give_rows A b.out o y n) h) x h
    where
      g : Figures
      g = figures_after p f r (Unlock v)

      b : Best (standing p f) r
      b = runs_best O R o.runs
  was_urgent (Work a) o t x u h = plain_same p f (figures_after p f r (Work a)) x t refl refl h
  was_urgent Finish o t x u h = plain_same p f (figures_after p f r Finish) x t refl refl h
  was_urgent Tick o t x u h = plain_same p f (figures_after p f r Tick) x t refl refl h

  -- ---- a delay

  -- r's work, where it counts, is within the bound and so does not stick
  no_stick : Late p f → {a : ℕ} → Workable p f r a → (t : ℕ)
      → delayed p f r a t ≡ (if ltb 0 (at f.released t) && ltb (at p.base r) (at p.base t) then at f.delay t + a else at f.delay t)
  no_stick L {a} o t = by_test (ltb 0 (at f.released t) && ltb (at p.base r) (at p.base t))
      (λ e. let (u, v) = and_true (ltb 0 (at f.released t)) (ltb (at p.base r) (at p.base t)) e in
      let c : Counts p f r t = record { out = ltb-true 0 (at f.released t) u; lower = ltb-true (at p.base r) (at p.base t) v } in
      let B : Blocks p f t r = record { lower = c.lower; urgent = omega (arith, base_priority p f t, (runs_best O R o.runs).top t c.out) } in
      omega (arith, delayed_more p f r a t c, work_within O R L room o t c.out B, bound_small O t)
      ∙ sym (if_true _ (at f.delay t + a) (at f.delay t) e))
      (λ e. delayed_same p f r a t (λ c. untrue (sym (true_and (ltb 0 (at f.released t)) (ltb (at p.base r) (at p.base t))
      (lt-ltb 0 (at f.released t) c.out) (lt-ltb (at p.base r) (at p.base t) c.lower)) ∙ e))
      ∙ sym (if_false _ (at f.delay t + a) (at f.delay t) e))

  -- an accepted event makes of a delay what it makes of the history's count: it does not stick
  pub delay_one : Late p f → (e : Event) → Allowed p f r e → (t : ℕ) → at (figures_after p f r e).delay t ≡ delay_next p f e t (at f.delay t)
  unfolding figures_after delay_next
  delay_one L (Release y) o t = by_test (eqb y t)
      (λ e. rw (if_true (eqb y t) 0 (at f.delay t) e, ← eqb-true y t e) (SoundFigures.release_delay A o r))
      (λ e. rw (if_false (eqb y t) 0 (at f.delay t) e) (SoundFigures.release_delays A o r t (λ q. eqb-false y t e (sym q))))
  delay_one L (Acquire l) o t = refl
  delay_one L (Unlock l) o t = refl
  delay_one L (Work a) o t = SoundFigures.work_delay A (runner_out O R o.runs) o t ∙ no_stick L o t
  delay_one L Finish o t = refl
  delay_one L Tick o t = refl

  -- to the delay of a released task it adds the units of a task of lower base
  pub delay_adds : (e : Event) → Allowed p f r e → (t c : ℕ) → 0 < at f.released t
      → delay_next p f e t c ≡ c + (if ltb (at p.base r) (at p.base t) then amount_of e else 0)
  unfolding delay_next amount_of
  delay_adds (Release y) o t c u = rw (ne_eqb y t (λ q. omega (arith, o.resting, ap (at f.released) q))) (nothing (ltb (at p.base r) (at p.base t)) c)
  delay_adds (Acquire l) o t c u = nothing (ltb (at p.base r) (at p.base t)) c
  delay_adds (Unlock l) o t c u = nothing (ltb (at p.base r) (at p.base t)) c
  delay_adds (Work a) o t c u = rw (lt-ltb 0 (at f.released t) u) (by_test (ltb (at p.base r) (at p.base t)) (λ q. rw q) (λ q. rw q (omega arith)))
  delay_adds Finish o t c u = nothing (ltb (at p.base r) (at p.base t)) c
  delay_adds Tick o t c u = nothing (ltb (at p.base r) (at p.base t)) c

  -- a task that is not released stays so, with its delay, until it is
  pub stays_off : (e : Event) → Allowed p f r e → (t : ℕ) → at f.released t ≡ 0 → (e ≢ Release t)
      → (at (figures_after p f r e).released t ≡ 0) × ((c : ℕ) → delay_next p f e t c ≡ c)
  unfolding figures_after delay_next
  stays_off (Release y) o t z n =
      let m : t ≢ y = λ q. n (ap Release (sym q)) in
      (SoundFigures.release_others A o r t m ∙ z, λ c. rw (ne_eqb y t (λ q. m (sym q))))
  stays_off (Acquire l) o t z n = (z, λ c. refl)
  stays_off (Unlock l) o t z n = (z, λ c. refl)
  stays_off (Work a) o t z n = (z, λ c. rw (le-ltb 0 (at f.released t) (omega arith)))
  stays_off Finish o t z n = (get_or-set_other f.released r t 0 0 (λ q. omega (arith, runner_out O R o.runs, ap (at f.released) q)) ∙ z, λ c. refl)
  stays_off Tick o t z n = (z, λ c. refl)
