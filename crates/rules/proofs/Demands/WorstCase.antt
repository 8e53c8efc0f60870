-- For every task of every plan the worst case is accepted, and its delay is the bound. Assumes nothing.
use mathlib.Core.Path.{◌≡◌, refl, sym, ◌∙◌, ap, subst}
use mathlib.Core.Logic.{◌≢◌, ⊎_elim}
use mathlib.Core.Bool.{true, false, ◌&&◌, ◌||◌}
use mathlib.Core.List.{List, [], ◌∷◌}
use Prim.Native.Nat.{ℕ, zero, suc, ◌+◌, ◌≤◌, ◌<◌}
use native.Mathlib.Numerals.{add-one}
use native.Mathlib.Omega.{arith}
use lib.Dec.{eqb, ltb}
use lib.ListN.{length}
use lib.Seq.{get_or-set_same, get_or-set_other}
use borrow.Author.Tests.{eqb-true, eqb-false, ltb-true, eq-eqb, lt-ltb}
use Rattle.rules.specs.Numbers.Capacity.{max_tasks, max_locks, max_accepted, nobody}
use Rattle.rules.specs.Numbers.Place.{at, greatest}
use Rattle.rules.specs.Books.Event.{kind_of}
use Rattle.rules.specs.Books.Plan.{Obeys, declares}
use Rattle.rules.specs.Schedulers.Figures.{Figures, fresh_figures, holds, priority_of}
use Rattle.rules.specs.Schedulers.EventRefusals.{past_limit}
use Rattle.rules.specs.Schedulers.FiguresAfter.{figures_after}
use Rattle.rules.specs.Schedulers.Eager.{eager_test}
use Rattle.rules.specs.Demands.Bound.{lower_at, may_block, limit_if, longest_limit, bound_of}
use Rattle.rules.specs.Numbers.Answer.{passes}
use Rattle.rules.specs.Demands.History.{event_at, eager_at, lazy_at, runner_at, accepted_at, delay_next}
use Rattle.rules.specs.Demands.Job.{Accepted, Job}
use Rattle.rules.specs.Demands.Demand3.{longest_lock, first_lower, worst_case, Reached}
use Rattle.rules.specs.declared.plan.Plan.{Plan}
use Rattle.rules.specs.declared.protocol.Protocol.{Protocol}
use Rattle.rules.specs.declared.event.Event.{Event}
use Rattle.rules.specs.declared.event.Event.TheVariants.{Release, Acquire, Work, Finish}
use Rattle.rules.proofs.Numbers.Choice.{if_true, if_false, by_test, untrue, not_so, and_true, true_and, or_true, at_or}
use Rattle.rules.proofs.Numbers.Place.{zero_past, false_any, greatest_some, first_some}
use Rattle.rules.proofs.Books.Obeyed.{few_tasks}
use Rattle.rules.proofs.Schedulers.Passed.{Releasable, Takeable, Workable, Allowed, accepts}
use Rattle.rules.proofs.Schedulers.FiguresKept as SoundFigures
use Rattle.rules.proofs.Schedulers.FiguresKept.{Same, none_depth}
use Rattle.rules.proofs.Schedulers.Rules.{base_priority, plain_priority, block_high, block_user, lower_so, limit_blocks, limit_else}
use Rattle.rules.proofs.Demands.Urgency as Urgency
use Rattle.rules.proofs.Demands.Urgency.{Best}
use Rattle.rules.proofs.Demands.EagerRuled.{standing, same_alike, Ruled, good, pays, stage, best_runs, not_elsewhere, ruled_at}
use Rattle.rules.proofs.Demands.OneEvent.{other_kind, delay_one}
use Rattle.rules.proofs.Demands.History.{next}
use Rattle.rules.proofs.Demands.Jobs.{late_at, delays_same}

module _ {p : Plan} (O : Obeys p) (es : List Event) where
  accept : (k : ℕ) → (eager_at p es k).accepted < max_accepted → Allowed p (eager_at p es k) (runner_at p es k) (event_at es k) → accepted_at p es k ≡ true
  unfolding accepted_at eager_test passes
  accept k room o = ap passes (accepts p (eager_at p es k) (runner_at p es k) (event_at es k) room o)

start : (p : Plan) (es : List Event) → eager_at p es 0 ≡ fresh_figures
unfolding eager_at
start p es = refl

-- ---- a bound of 0: the release alone

module _ {p : Plan} (O : Obeys p) (t : ℕ) (ht : t < p.tasks) where
  abbrev alone : List Event
  alone = Release t ∷ []

  alone_0 : Accepted p alone 0 (Release t)
  unfolding eager_at
  alone_0 = record { event = refl; accepted = accept O alone 0 (omega arith) (record { known = ht; resting = zero_past max_tasks t }) }

  alone_delay : at (eager_at p alone 1).delay t ≡ 0
  unfolding eager_at
  alone_delay = rw (next p alone alone_0) (SoundFigures.release_delay (stage O (ruled_at O alone 0) (omega arith))
      (record { known = ht; resting = zero_past max_tasks t }) (runner_at p alone 0))

-- ---- a lower task u that may take lock l

module _ {p : Plan} (O : Obeys p) (t u l : ℕ) (ht : t < p.tasks) (hu : u < p.tasks) (hl : l < p.locks) (ul : declares p u l ≡ true)
    (lo : at p.base u < at p.base t) (hi : at p.base t ≤ at p.ceiling l) (a : ℕ) (some : 0 < a) (is : at p.limit l ≡ a) where
  abbrev es : List Event
  es = Release u ∷ Acquire l ∷ Release t ∷ Work a ∷ []

  abbrev f : ℕ → Figures
  f k = eager_at p es k

  abbrev R : (k : ℕ) → Ruled p (f k)
  R = ruled_at O es

  nu : u ≢ nobody
  nu e = omega (arith, few_tasks O)

  tu : t ≢ u
  tu e = omega (arith, ap (at p.base) e)

  -- place 0
  A0 : Accepted p es 0 (Release u)
  unfolding eager_at
  A0 = record { event = refl; accepted = accept O es 0 (omega arith) (record { known = hu; resting = zero_past max_tasks u }) }

  -- what one accepted release changes
  count1 : (f 1).accepted ≡ 1
  unfolding figures_after
  count1 = rw (next p es A0, start p es) (omega arith)

  off1 : (x : ℕ) → x ≢ u → at (f 1).released x ≡ 0
  unfolding figures_after
  off1 x n = rw (next p es A0, start p es) (get_or-set_other fresh_figures.released u x 1 0 n ∙ zero_past max_tasks x)

  out1 : at (f 1).released u ≡ 1
  unfolding figures_after
  out1 = rw (next p es A0, start p es) (get_or-set_same fresh_figures.released u 1 0 (omega (arith, few_tasks O, rw (start p es) at (R 0).sized.released)))

  held1 : at (f 1).depth u ≡ 0
  unfolding figures_after
  held1 = rw (next p es A0, start p es) (zero_past max_tasks u)

  units1 : (v : ℕ) → at (f 1).units v ≡ 0
  unfolding figures_after
  units1 v = rw (next p es A0, start p es) (zero_past max_locks v)

  b1 : Best (standing p (f 1)) u
  b1 = record {
    out = omega (arith, out1);
    top = at_or (λ y. 0 < at (f 1).released y → priority_of p (f 1) y ≤ priority_of p (f 1) u) u (λ o. omega arith) (λ y n o. absurd (omega (arith, off1 y n)));
    tie = at_or (λ y. 0 < at (f 1).released y → at (f 1).released y < at (f 1).released u → priority_of p (f 1) y < priority_of p (f 1) u) u
        (λ o q. absurd (omega arith)) (λ y n o. absurd (omega (arith, off1 y n)));
  }

  r1 : runner_at p es 1 ≡ u
  r1 = sym (best_runs O (R 1) u b1)

  -- place 1
  take : Takeable p (f 1) u l
  take = record {
    runs = nu;
    known = hl;
    declared = ul;
    free = not_elsewhere O (R 1) u l b1 hl ul;
    room = omega (arith, held1);
  }

  A1 : Accepted p es 1 (Acquire l)
  A1 = record { event = refl; accepted = accept O es 1 (omega (arith, count1)) (rw r1 take) }

  f2 : f 2 ≡ figures_after p (f 1) u (Acquire l)
  f2 = next p es A1 ∙ ap (λ r. figures_after p (f 1) r (Acquire l)) r1

  room1 : (f 1).accepted < max_accepted
  room1 = omega (arith, count1)

  same2 : (x : ℕ) → x ≢ u → Same (f 1) (figures_after p (f 1) u (Acquire l)) x
  unfolding figures_after
  same2 x n = record {
    released = refl;
    depth = SoundFigures.take_helds (stage O (R 1) room1) b1.out take x n;
    takes = SoundFigures.take_rows (stage O (R 1) room1) b1.out take x n;
  }

  b2 : Best (standing p (f 2)) u
  unfolding figures_after
  b2 = rw f2 (Urgency.stay (good (R 1)) u (λ x n. same_alike p (same2 x n)) b1 refl (base_priority p (figures_after p (f 1) u (Acquire l)) u)
      (λ y n o. absurd (omega (arith, off1 y n))))

  r2 : runner_at p es 2 ≡ u
  r2 = sym (best_runs O (R 2) u b2)

  count2 : (f 2).accepted ≡ 2
  unfolding figures_after
  count2 = rw f2 (omega (arith, count1))

  off2 : at (f 2).released t ≡ 0
  unfolding figures_after
  off2 = rw f2 (off1 t tu)

  holds2 : (v : ℕ) → holds (f 2) u v ≡ (eqb l v || holds (f 1) u v)
  holds2 v = rw f2 (SoundFigures.take_holds (stage O (R 1) room1) b1.out take v)

  units2 : (v : ℕ) → at (f 2).units v ≡ 0
  unfolding figures_after
  units2 v = rw f2 (units1 v)

  -- the lock's ceiling is u's priority at least
  high2 : at p.base t ≤ priority_of p (f 2) u
  high2 = omega (arith, pays p (f 2) u l (holds2 l ∙ ap (λ b. b || holds (f 1) u l) (eq-eqb l l refl)))

  -- place 2
  A2 : Accepted p es 2 (Release t)
  A2 = record { event = refl; accepted = accept O es 2 (omega (arith, count2)) (record { known = ht; resting = off2 }) }

  arrive : Releasable p (f 2) t
  arrive = record { known = ht; resting = off2 }

  room2 : (f 2).accepted < max_accepted
  room2 = omega (arith, count2)

  f3 : f 3 ≡ figures_after p (f 2) u (Release t)
  f3 = next p es A2 ∙ ap (λ r. figures_after p (f 2) r (Release t)) r2

  same3 : (x : ℕ) → x ≢ t → Same (f 2) (figures_after p (f 2) u (Release t)) x
  unfolding figures_after
  same3 x n = record { released = SoundFigures.release_others (stage O (R 2) room2) arrive u x n; depth = refl; takes = refl }

  number3 : at (f 3).released t ≡ suc (f 2).accepted
  number3 = rw f3 (SoundFigures.release_number (stage O (R 2) room2) arrive u ∙ add-one (f 2).accepted)

  plain3 : priority_of p (figures_after p (f 2) u (Release t)) t ≡ at p.base t
  unfolding figures_after
  plain3 = plain_priority p (figures_after p (f 2) u (Release t)) t ((R 2).figured.resting t off2)

  b3 : Best (standing p (f 3)) u
  b3 = rw f3 (Urgency.newcomer (good (R 2)) t (λ x n. same_alike p (same3 x n)) u (λ e. tu (sym e)) b2
      (sym (ap (λ (g : Figures). at g.released t) f3) ∙ number3) (omega (arith, plain3, high2)))

  r3 : runner_at p es 3 ≡ u
  r3 = sym (best_runs O (R 3) u b3)

  count3 : (f 3).accepted ≡ 3
  unfolding figures_after
  count3 = rw f3 (omega (arith, count2))

  holds3 : (v : ℕ) → holds (f 3) u v ≡ holds (f 2) u v
  unfolding figures_after holds
  holds3 v = rw f3 refl

  units3 : (v : ℕ) → at (f 3).units v ≡ 0
  unfolding figures_after
  units3 v = rw f3 (units2 v)

  delay3 : at (f 3).delay t ≡ 0
  delay3 = rw f3 (SoundFigures.release_delay (stage O (R 2) room2) arrive u)

  -- place 3: u's only section is that of l, and has room for the limit
  only : (v : ℕ) → holds (f 3) u v ≡ true → l ≡ v
  only v h = ⊎_elim (λ e. eqb-true l v e) (λ e. untrue (sym e ∙ none_depth (f 1) u v held1))
      (or_true (eqb l v) (holds (f 1) u v) (sym (holds3 v ∙ holds2 v) ∙ h))

  work : Workable p (f 3) u a
  unfolding past_limit
  work = record {
    some = some;
    runs = nu;
    within = false_any (λ v. holds (f 3) u v && ltb (at p.limit v) (at (f 3).units v + a)) p.locks (λ v q. not_so _ (λ b.
        let (h, i) = and_true (holds (f 3) u v) (ltb (at p.limit v) (at (f 3).units v + a)) b in
        omega (arith, ltb-true (at p.limit v) (at (f 3).units v + a) i, units3 v, ap (at p.limit) (only v h), is)));
  }

  room3 : (f 3).accepted < max_accepted
  room3 = omega (arith, count3)

  A3 : Accepted p es 3 (Work a)
  A3 = record { event = refl; accepted = accept O es 3 room3 (rw r3 work) }

  delay4 : at (f 4).delay t ≡ a
  unfolding delay_next
  delay4 =
      rw (next p es A3) (delay_one O (R 3) room3 (late_at O es 3) (Work a) (rw r3 work) t
      ∙ if_true (ltb 0 (at (f 3).released t) && ltb (at p.base (runner_at p es 3)) (at p.base t)) (at (f 3).delay t + a) (at (f 3).delay t)
      (true_and (ltb 0 (at (f 3).released t)) (ltb (at p.base (runner_at p es 3)) (at p.base t))
      (lt-ltb 0 (at (f 3).released t) (omega (arith, number3)))
      (rw r3 (lt-ltb (at p.base u) (at p.base t) lo))) ∙ omega (arith, delay3))

  all_accepted : (k : ℕ) → k < 4 → accepted_at p es k ≡ true
  all_accepted zero h = A0.accepted
  all_accepted (suc zero) h = A1.accepted
  all_accepted (suc (suc zero)) h = A2.accepted
  all_accepted (suc (suc (suc zero))) h = A3.accepted
  all_accepted (suc (suc (suc (suc k)))) h = absurd (omega arith)

  job4 : Job p es t 2 4
  unfolding kind_of
  job4 = record {
    begun = A2;
    since = omega arith;
    still = λ j b c D. let e : j ≡ 3 = omega arith in other_kind (Work a) Finish (omega arith) (sym (ap (event_at es) e) ∙ D.does.event);
  }

-- ---- the longest lock and its lower user

module _ (p : Plan) (t : ℕ) where
  longest : 0 < bound_of p t → (longest_lock p t < p.locks) × (may_block p (at p.base t) (longest_lock p t) ≡ true)
      × (at p.limit (longest_lock p t) ≡ bound_of p t)
  unfolding longest_lock longest_limit
  longest h =
      let b : ℕ = at p.base t in
      let (l, q, e) = greatest_some (limit_if p b) p.locks h in
      let m : may_block p b l ≡ true = by_test (may_block p b l) (λ m. m) (λ n. absurd (omega (arith, e, limit_else p b l n))) in
      let i : at p.limit l ≡ greatest (limit_if p b) p.locks = sym (limit_blocks p b l m) ∙ e in
      let (v, w) = first_some (λ l. may_block p b l && eqb (at p.limit l) (greatest (limit_if p b) p.locks)) p.locks l q
      (true_and _ _ m (eq-eqb _ _ i)) in
      let (x, y) = and_true _ _ w in (v, x, eqb-true _ _ y)

  lower : (l : ℕ) → may_block p (at p.base t) l ≡ true
      → (at p.base t ≤ at p.ceiling l) × (first_lower p t l < p.tasks) × (declares p (first_lower p t l) l ≡ true)
      × (at p.base (first_lower p t l) < at p.base t)
  unfolding first_lower
  lower l m =
      let (x, q, e) = block_user p (at p.base t) l m in
      let (v, w) = first_some (lower_at p (at p.base t) l) p.tasks x q e in
      let (d, b) = lower_so p (at p.base t) l _ w in (block_high p (at p.base t) l m, v, d, b)

  worst_alone : eqb (bound_of p t) 0 ≡ true → worst_case p t ≡ Release t ∷ []
  unfolding worst_case
  worst_alone e = if_true (eqb (bound_of p t) 0) _ _ e

  worst_four : eqb (bound_of p t) 0 ≡ false → worst_case p t ≡ Release (first_lower p t (longest_lock p t)) ∷ Acquire (longest_lock p t) ∷ Release t ∷ Work
      (bound_of p t) ∷ []
  unfolding worst_case
  worst_four e = if_false (eqb (bound_of p t) 0) _ _ e

-- the bound is reached
pub reached : (pr : Protocol) {p : Plan} → Obeys p → (t : ℕ) → t < p.tasks → Reached pr p t
reached pr {p} O t ht = by_test (eqb (bound_of p t) 0) none_blocks some_blocks
  where
    Goal : List Event → Type 0
    Goal es = ((k : ℕ) → k < length es → accepted_at p es k ≡ true) × ((i : ℕ) × Job p es t i (length es))
        × (at (lazy_at pr p es (length es)).delay t ≡ bound_of p t)

    build : (es : List Event) → worst_case p t ≡ es → Goal es → Reached pr p t
    build es e G = let (a, (i, j), d) = subst Goal (sym e) G in record { accepted = a; released = i; job = j; delay = d }

    none_blocks : eqb (bound_of p t) 0 ≡ true → Reached pr p t
    none_blocks e = build (Release t ∷ []) (worst_alone p t e) (
      λ k h. let z : k ≡ 0 = omega arith in rw z (alone_0 O t ht).accepted,
      (0, record { begun = alone_0 O t ht; since = omega arith; still = λ j b c. absurd (omega arith) }),
      delays_same O (Release t ∷ []) pr 1 t ∙ alone_delay O t ht ∙ sym (eqb-true (bound_of p t) 0 e),
    )

    some_blocks : eqb (bound_of p t) 0 ≡ false → Reached pr p t
    some_blocks e =
        let pos : 0 < bound_of p t = omega (arith, eqb-false (bound_of p t) 0 e) in
        let (hl, m, is) = longest p t pos in
        let (hi, hu, ul, lo) = lower p t (longest_lock p t) m in
        let u : ℕ = first_lower p t (longest_lock p t) in
        let l : ℕ = longest_lock p t in
        let es : List Event = Release u ∷ Acquire l ∷ Release t ∷ Work (bound_of p t) ∷ [] in
        build es (worst_four p t e) (
          all_accepted O t u l ht hu hl ul lo hi (bound_of p t) pos is,
          (2, job4 O t u l ht hu hl ul lo hi (bound_of p t) pos is),
          delays_same O es pr 4 t ∙ delay4 O t u l ht hu hl ul lo hi (bound_of p t) pos is,
        )
