-- The delay of a task never passes the units of the section that holds it up, nor the bound. Assumes nothing.
use Rattle.std.specs.Prelude.{Ok, Err}
use Rattle.rules.specs.Numbers.Verdict.{Tested}
use mathlib.Core.Path.{◌≡◌, refl, sym, ◌∙◌, ap, ap₂, subst, subst₂}
use mathlib.Core.Logic.{◌≢◌, ◌⊎◌, inl, inr, ⊎_elim}
use mathlib.Core.Bool.{true}
use Prim.Native.Nat.{ℕ, ◌+◌, ◌≤◌, ◌<◌}
use native.Mathlib.Omega.{arith}
use lib.Seq.{get_or-set_other}
use Rattle.rules.specs.Numbers.Capacity.{max_tasks, max_accepted, max_delay}
use Rattle.rules.specs.Numbers.Place.{at}
use Rattle.rules.specs.Numbers.Row.{under, priority}
use Rattle.rules.specs.Books.Plan.{Obeys, declares}
use Rattle.rules.specs.Schedulers.Figures.{Figures, fresh_figures, holds, priority_of}
use Rattle.rules.specs.Schedulers.FiguresAfter.{figures_after}
use Rattle.rules.specs.Schedulers.Eager.{running_of, settle, eager_test, eager_step}
use Rattle.rules.specs.Demands.Bound.{may_block, limit_if, longest_limit, bound_of}
use Rattle.rules.specs.declared.plan.Plan.{Plan}
use Rattle.rules.specs.declared.event.Event.{Event}
use Rattle.rules.specs.declared.event.Event.TheVariants.{Release, Acquire, Unlock, Work, Finish, Tick}
use Rattle.rules.proofs.Numbers.Choice.{by_test, at_or}
use Rattle.rules.proofs.Numbers.Place.{zero_past, cleared, greatest_all, greatest_least}
use Rattle.rules.proofs.Books.Obeyed.{few_locks}
use Rattle.rules.proofs.Schedulers.Passed.{Releasable, Takeable, Givable, Workable, Finishable, Allowed, passed_room, allowed}
use Rattle.rules.proofs.Schedulers.FiguresKept as SoundFigures
use Rattle.rules.proofs.Schedulers.FiguresKept.{Same, same_priority, Stage, inside}
use Rattle.rules.proofs.Schedulers.Rules.{base_priority, plain_priority, charged_open, charged_closed, delayed_cases, blocks, limit_blocks, limit_else}
use Rattle.rules.proofs.Demands.Urgency as Urgency
use Rattle.rules.proofs.Demands.Urgency.{Best}
use Rattle.rules.proofs.Demands.EagerRuled.{standing, Ruled, good, stage, runs_best}
use Rattle.rules.proofs.Demands.Oldest.{oldest, oldest_under, oldest_pushed, oldest_of, oldest_open, same_oldest}

-- x holds up t by the section of this lock
abbrev pub lock_by : Plan → Figures → ℕ → ℕ → ℕ
lock_by p f x t = oldest_of p f x (at p.base t)

-- task x of lower base is urgent enough to hold up the released task t
pub record Blocks (p : Plan) (f : Figures) (t x : ℕ) : Type 0 where
  pub lower : at p.base x < at p.base t
  pub urgent : at p.base t ≤ priority_of p f x

pub record Late (p : Plan) (f : Figures) : Type 0 where
  pub late : (t x : ℕ) → 0 < at f.released t → Blocks p f t x → at f.delay t ≤ at f.units (lock_by p f x t)
  pub bounded : (t : ℕ) → at f.delay t ≤ bound_of p t

-- a lock that may hold up t has a limit within the bound
pub bound_limit : (p : Plan) (t x l : ℕ) → x < p.tasks → l < p.locks → declares p x l ≡ true → at p.base x < at p.base t
    → at p.base t ≤ at p.ceiling l → at p.limit l ≤ bound_of p t
unfolding longest_limit
bound_limit p t x l hx hl d lo hi =
    omega (arith, greatest_all (limit_if p (at p.base t)) p.locks l hl, limit_blocks p (at p.base t) l (blocks p (at p.base t) l x hi hx d lo))

-- a bound fits two bytes, so a delay within it does not stick
pub bound_small : {p : Plan} → Obeys p → (t : ℕ) → bound_of p t ≤ max_delay
unfolding longest_limit
bound_small {p} O t = greatest_least (limit_if p (at p.base t)) max_delay p.locks
    (λ l h. by_test (may_block p (at p.base t) l) (λ e. omega (arith, limit_blocks p (at p.base t) l e, O.limit_bytes l))
    (λ e. omega (arith, limit_else p (at p.base t) l e)))

-- ---- the oldest lock of the running task, when it takes a lock or gives it back

module _ {p : Plan} {f : Figures} (A : Stage p f) {r : ℕ} (out : 0 < at f.released r) where
  pub take_oldest : {l : ℕ} (o : Takeable p f r l) (q : ℕ) → q ≤ priority_of p f r → oldest_of p (figures_after p f r (Acquire l)) r q ≡ oldest_of p f r q
  unfolding oldest_of priority_of
  take_oldest {l} o q h =
      ap₂ (oldest (at p.ceiling) (at p.base r) q) (SoundFigures.take_row A out o) (SoundFigures.take_depth A out o)
      ∙ oldest_pushed (at p.ceiling) (at p.base r) q (at f.takes r) (at f.depth r) l (omega (arith, few_locks A.plan, o.known)) h

  module _ {l : ℕ} (o : Givable p f r l) where
    pub give_oldest : (q : ℕ) → q ≤ priority_of p (figures_after p f r (Unlock l)) r → oldest_of p (figures_after p f r (Unlock l)) r q ≡ oldest_of p f r q
    unfolding oldest_of priority_of
    give_oldest q h =
        let k : ℕ = SoundFigures.less A out o in
        let row : ℕ = at f.takes r in
        let h' : q ≤ priority (at p.ceiling) (at p.base r) (under row) k = subst₂ (λ a b. q ≤ priority (at p.ceiling) (at p.base r) a b)
        (SoundFigures.give_row A out o) (SoundFigures.give_depth A out o) h in
        ap₂ (oldest (at p.ceiling) (at p.base r) q) (SoundFigures.give_row A out o) (SoundFigures.give_depth A out o)
        ∙ sym (oldest_under (at p.ceiling) (at p.base r) q row k h')
        ∙ ap (oldest (at p.ceiling) (at p.base r) q row) (sym (SoundFigures.give_was A out o))

module _ {p : Plan} (O : Obeys p) {f : Figures} (R : Ruled p f) where
  -- a released task's base is at most the running task's priority
  below_runner : (r t : ℕ) → Best (standing p f) r → 0 < at f.released t → at p.base t ≤ priority_of p f r
  below_runner r t b o = omega (arith, base_priority p f t, b.top t o)

  -- who holds up t has the lock open
  pub blocks_open : (t x : ℕ) → Blocks p f t x → (holds f x (lock_by p f x t) ≡ true) × (at p.base t ≤ at p.ceiling (lock_by p f x t))
  blocks_open t x B = oldest_open p f x (at p.base t) B.lower B.urgent

  -- and its limit is within the bound
  pub blocks_bound : (t x : ℕ) → Blocks p f t x → at p.limit (lock_by p f x t) ≤ bound_of p t
  blocks_bound t x B =
      let (h, c) = blocks_open t x B in
      bound_limit p t x (lock_by p f x t) (inside R.figured x (SoundFigures.holder_out R.figured x (lock_by p f x t) h))
      (R.figured.known x (lock_by p f x t) h)
      (R.figured.declared x (lock_by p f x t) h) B.lower c

  module _ (L : Late p f) (room : f.accepted < max_accepted) where
    abbrev r : ℕ
    r = running_of p f

    abbrev A : Stage p f
    A = stage O R room

    late_release : {t : ℕ} (o : Releasable p f t) → Late p (figures_after p f r (Release t))
    unfolding figures_after
    late_release {t} o = record {
      late = at_or (λ y. (x : ℕ) → 0 < at g.released y → Blocks p g y x → at g.delay y ≤ at f.units (lock_by p g x y)) t
          (λ x u B. omega (arith, zero))
          (λ y n. at_or (λ x. 0 < at g.released y → Blocks p g y x → at g.delay y ≤ at f.units (lock_by p g x y)) t
          (λ u B. absurd (omega (arith, B.lower, B.urgent, plain_priority p g t (R.figured.resting t o.resting))))
          (λ x m u B. rw (others y n, same_oldest p (same x m) (at p.base y))
          (L.late y x (omega (arith, (same y n).released)) (record { lower = B.lower; urgent = omega (arith, B.urgent, same_priority p (same x m)) }))));
      bounded = at_or (λ y. at g.delay y ≤ bound_of p y) t (omega (arith, zero)) (λ y n. omega (arith, others y n, L.bounded y));
    }
      where
        g : Figures
        g = figures_after p f r (Release t)

        same : (x : ℕ) → x ≢ t → Same f g x
        same x n = record { released = SoundFigures.release_others A o r x n; depth = refl; takes = refl }

        zero : at g.delay t ≡ 0
        zero = SoundFigures.release_delay A o r

        others : (y : ℕ) → y ≢ t → at g.delay y ≡ at f.delay y
        others y n = SoundFigures.release_delays A o r y n

    late_finish : Finishable f r → Late p (figures_after p f r Finish)
    unfolding figures_after
    late_finish o = record {
      late = at_or (λ y. (x : ℕ) → 0 < at g.released y → Blocks p g y x → at f.delay y ≤ at f.units (lock_by p g x y)) r
          (λ x u B. absurd (omega (arith, cleared f.released r)))
          (λ y n. at_or (λ x. 0 < at g.released y → Blocks p g y x → at f.delay y ≤ at f.units (lock_by p g x y)) r
          (λ u B. absurd (omega (arith, B.lower, B.urgent, plain_priority p g r o.closed)))
          (λ x m u B. rw (same_oldest p (same x m) (at p.base y)) (L.late y x (omega (arith, (same y n).released))
          (record { lower = B.lower; urgent = omega (arith, B.urgent, same_priority p (same x m)) }))));
      bounded = L.bounded;
    }
      where
        g : Figures
        g = figures_after p f r Finish

        same : (x : ℕ) → x ≢ r → Same f g x
        same x n = record { released = get_or-set_other f.released r x 0 0 n; depth = refl; takes = refl }

    late_tick : Late p (figures_after p f r Tick)
    unfolding figures_after
    late_tick = record {
      late = λ t x u B. rw (same_oldest p (same x) (at p.base t)) (L.late t x u
          (record { lower = B.lower; urgent = omega (arith, B.urgent, same_priority p (same x)) }));
      bounded = L.bounded;
    }
      where
        same : (x : ℕ) → Same f (figures_after p f r Tick) x
        same x = record { released = refl; depth = refl; takes = refl }

    late_acquire : {l : ℕ} → Takeable p f r l → Late p (figures_after p f r (Acquire l))
    unfolding figures_after
    late_acquire {l} o = record {
      late = λ t. at_or (λ x. 0 < at f.released t → Blocks p g t x → at f.delay t ≤ at f.units (lock_by p g x t)) r
          (λ u B. let h : at p.base t ≤ priority_of p f r = below_runner r t b u in
          rw (own_oldest (at p.base t) h) (L.late t r u (record { lower = B.lower; urgent = h })))
          (λ x n u B. rw (same_oldest p (same x n) (at p.base t)) (L.late t x u
          (record { lower = B.lower; urgent = omega (arith, B.urgent, same_priority p (same x n)) })));
      bounded = L.bounded;
    }
      where
        g : Figures
        g = figures_after p f r (Acquire l)

        b : Best (standing p f) r
        b = runs_best O R o.runs

        same : (x : ℕ) → x ≢ r → Same f g x
        same x n = record { released = refl; depth = SoundFigures.take_helds A b.out o x n; takes = SoundFigures.take_rows A b.out o x n }

        own_oldest : (q : ℕ) → q ≤ priority_of p f r → oldest_of p g r q ≡ oldest_of p f r q
        own_oldest q h = take_oldest A b.out o q h

    late_unlock : {l : ℕ} → Givable p f r l → Late p (figures_after p f r (Unlock l))
    unfolding figures_after
    late_unlock {l} o = record {
      late = λ t. at_or (λ x. 0 < at f.released t → Blocks p g t x → at f.delay t ≤ at g.units (lock_by p g x t)) r
          (λ u B. let h : at p.base t ≤ priority_of p f r = below_runner r t b u in
          let e : lock_by p g r t ≡ lock_by p f r t = give_oldest A b.out o (at p.base t) B.urgent in
          rw (SoundFigures.give_section A b.out o (lock_by p g r t) (oldest_open p g r (at p.base t) B.lower B.urgent).0, e)
          (L.late t r u (record { lower = B.lower; urgent = h })))
          (λ x m u B. let B' : Blocks p f t x = record { lower = B.lower; urgent = omega (arith, B.urgent, same_priority p (same x m)) } in
          let e : lock_by p g x t ≡ lock_by p f x t = same_oldest p (same x m) (at p.base t) in
          let n : lock_by p f x t ≢ l = λ q. m (R.figured.alone x r l (subst (λ v. holds f x v ≡ true) q (blocks_open t x B').0) mine) in
          rw (e, SoundFigures.give_units A b.out o (lock_by p f x t) n) (L.late t x u B'));
      bounded = L.bounded;
    }
      where
        g : Figures
        g = figures_after p f r (Unlock l)

        b : Best (standing p f) r
        b = runs_best O R o.runs

        same : (x : ℕ) → x ≢ r → Same f g x
        same x n = record { released = refl; depth = SoundFigures.give_helds A b.out o x n; takes = SoundFigures.give_rows A b.out o x n }

        mine : holds f r l ≡ true
        mine = SoundFigures.give_mine A b.out o

    module _ {a : ℕ} (o : Workable p f r a) where
      b : Best (standing p f) r
      b = runs_best O R o.runs

      same_work : (x : ℕ) → Same f (figures_after p f r (Work a)) x
      unfolding figures_after
      same_work x = record { released = refl; depth = refl; takes = refl }

      -- a delay that grows is that of a released task that r holds up, and it grows by the amount at most
      grows : (t : ℕ) → (at (figures_after p f r (Work a)).delay t ≡ at f.delay t) ⊎ ((0 < at f.released t) × Blocks p f t r)
      grows t = ⊎_elim
          (λ (c, e). inr (c.out, record { lower = c.lower; urgent = below_runner r t b c.out }))
          (λ (_, e). inl (SoundFigures.work_delay A b.out o t ∙ e)) (delayed_cases p f r a t)

      more : (t : ℕ) → at (figures_after p f r (Work a)).delay t ≤ at f.delay t + a
      more t = ⊎_elim (λ (_, e). omega (arith, SoundFigures.work_delay A b.out o t)) (λ (_, e). omega (arith, SoundFigures.work_delay A b.out o t))
          (delayed_cases p f r a t)

      units_own : (l : ℕ) → holds f r l ≡ true → at (figures_after p f r (Work a)).units l ≡ at f.units l + a
      units_own l h = SoundFigures.work_units A b.out o l ∙ charged_open f r a l h

      units_up : (l : ℕ) → at f.units l ≤ at (figures_after p f r (Work a)).units l
      units_up l = by_test (holds f r l) (λ e. omega (arith, units_own l e))
          (λ e. omega (arith, SoundFigures.work_units A b.out o l, charged_closed f r a l e))

      -- the delay with the work is within the limit of r's section, and so within the bound
      pub work_within : (t : ℕ) → 0 < at f.released t → Blocks p f t r → at f.delay t + a ≤ bound_of p t
      work_within t u B = omega (arith, L.late t r u B, SoundFigures.work_fits A b.out o (lock_by p f r t) (blocks_open t r B).0, blocks_bound t r B)

      late_work : Late p (figures_after p f r (Work a))
      late_work = record {
        late = λ t x u B.
            let B' : Blocks p f t x = record { lower = B.lower; urgent = omega (arith, B.urgent, same_priority p (same_work x)) } in
            let u' : 0 < at f.released t = omega (arith, (same_work t).released) in
            rw (same_oldest p (same_work x) (at p.base t)) (at_or (λ x. Blocks p f t x
            → at (figures_after p f r (Work a)).delay t ≤ at (figures_after p f r (Work a)).units (lock_by p f x t)) r
            (λ C. omega (arith, more t, units_own (lock_by p f r t) (blocks_open t r C).0, L.late t r u' C))
            (λ x n C. ⊎_elim (λ e. omega (arith, e, units_up (lock_by p f x t), L.late t x u' C))
            (λ (_, D). absurd (n (Urgency.only (good R) t x r C.lower D.lower C.urgent D.urgent))) (grows t)) x B');
        bounded = λ t. ⊎_elim (λ e. omega (arith, L.bounded t)) (λ (u, B). omega (arith, more t, work_within t u B)) (grows t);
      }

    late_kept : (e : Event) → Allowed p f r e → Late p (figures_after p f r e)
    late_kept (Release t) o = late_release o
    late_kept (Acquire l) o = late_acquire o
    late_kept (Unlock l) o = late_unlock o
    late_kept (Work a) o = late_work o
    late_kept Finish o = late_finish o
    late_kept Tick o = late_tick

  late_settled : Late p f → (t : Tested) (g : Figures) → (t ≡ Ok tt → Late p g) → Late p (settle t g f)
  unfolding settle
  late_settled L (Ok _) g h = h refl
  late_settled L (Err why) g h = L

  pub late_step : Late p f → (e : Event) → Late p (eager_step p f e)
  unfolding eager_step eager_test
  late_step L e = late_settled L (eager_test p f e) (figures_after p f (running_of p f) e)
      (λ z. late_kept L (passed_room p f (running_of p f) e z) e (allowed p f (running_of p f) e z))

pub late_fresh : (p : Plan) → Late p fresh_figures
late_fresh p = record { late = λ t x u. absurd (omega (arith, zero_past max_tasks t)); bounded = λ t. omega (arith, zero_past max_tasks t) }
