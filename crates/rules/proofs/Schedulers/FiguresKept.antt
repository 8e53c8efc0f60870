-- What the figures obey holds at a fresh start, and an accepted event keeps it, whichever released task runs. Assumes nothing.
use Rattle.std.specs.Prelude.{Ok, if◌then◌else◌}
use mathlib.Core.Path.{◌≡◌, refl, sym, ◌∙◌, ap, ap₂, subst}
use mathlib.Core.Logic.{◌≢◌, ◌⊎◌, inl, inr, ⊎_elim}
use mathlib.Core.Bool.{true, false, not, ◌&&◌, ◌||◌}
use mathlib.Core.List.{List}
use Prim.Native.Nat.{ℕ, suc, ◌+◌, ◌-◌, ◌≤◌, ◌<◌, ◌^◌}
use native.Mathlib.Nat.{eq-zero-or-pos}
use native.Mathlib.Numerals.{add-one}
use native.Mathlib.Omega.{arith}
use lib.Dec.{eqb, ltb}
use lib.ListN.{replicate, length-set, length-replicate}
use lib.Seq.{get_or-set_same, get_or-set_other}
use borrow.Author.Tests.{eqb-true, ltb-false, eq-eqb, ne_eqb}
use Rattle.rules.specs.Numbers.Capacity.{max_tasks, max_locks, max_takes, max_accepted, max_delay, nobody}
use Rattle.rules.specs.Numbers.Place.{at}
use Rattle.rules.specs.Numbers.Row.{under, pushed, has, priority}
use Rattle.rules.specs.Books.Plan.{Obeys}
use Rattle.rules.specs.Schedulers.Figures.{Figures, Sized, fresh_figures, holds, priority_of, rank_of}
use Rattle.rules.specs.Schedulers.EventRefusals.{elsewhere, past_limit, refusal_of}
use Rattle.rules.specs.Schedulers.FiguresAfter.{differs, eager_calls, stays_open, left_of, charged, delayed, figures_after}
use Rattle.rules.specs.Soundness.Sound.{SoundFigures}
use Rattle.rules.specs.declared.plan.Plan.{Plan}
use Rattle.rules.specs.declared.event.Event.{Event}
use Rattle.rules.specs.declared.event.Event.TheVariants.{Release, Acquire, Unlock, Work, Finish, Tick}
use Rattle.rules.proofs.Numbers.Choice.{by_test, either, untrue, not_so, true_and, or_false, or_true, at_or, lt_or_le}
use Rattle.rules.proofs.Numbers.Place.{any_false, length_renewed, renewed_rest, renewed_at, zero_past}
use Rattle.rules.proofs.Numbers.Row.{copies, has_none, has_pushed, copies_pushed, copies_suc, places_pushed, places_under}
use Rattle.rules.proofs.Schedulers.Rules.{left_same, left_none, left_most, charged_open, charged_closed, delayed_cases, delayed_same}
use Rattle.rules.proofs.Books.Obeyed.{few_tasks, few_locks}
use Rattle.rules.proofs.Schedulers.Passed.{Releasable, Takeable, Givable, Workable, Finishable, Allowed, passed_room, allowed}

-- ---- a place for every task and lock

pub sized_moved : (p : Plan) (f : Figures) (r : ℕ) (e : Event) → Sized f → Sized (figures_after p f r e)
unfolding figures_after
sized_moved p f r (Release t) Z = record {
  released = length-set f.released t _ ∙ Z.released;
  delay = length-set f.delay t _ ∙ Z.delay;
  depth = Z.depth;
  takes = Z.takes;
  units = Z.units;
}
sized_moved p f r (Acquire l) Z = record {
  released = Z.released;
  delay = Z.delay;
  depth = length-set f.depth r _ ∙ Z.depth;
  takes = length-set f.takes r _ ∙ Z.takes;
  units = Z.units;
}
sized_moved p f r (Unlock l) Z = record {
  released = Z.released;
  delay = Z.delay;
  depth = length-set f.depth r _ ∙ Z.depth;
  takes = length-set f.takes r _ ∙ Z.takes;
  units = length-set f.units l _ ∙ Z.units;
}
sized_moved p f r (Work a) Z = record {
  released = Z.released;
  delay = length_renewed f.delay (delayed p f r a) p.tasks ∙ Z.delay;
  depth = Z.depth;
  takes = Z.takes;
  units = length_renewed f.units (charged f r a) p.locks ∙ Z.units;
}
sized_moved p f r Finish Z = record {
  released = length-set f.released r _ ∙ Z.released;
  delay = Z.delay;
  depth = Z.depth;
  takes = Z.takes;
  units = Z.units;
}
sized_moved p f r Tick Z = record { released = Z.released; delay = Z.delay; depth = Z.depth; takes = Z.takes; units = Z.units }

pub accepted_moved : (p : Plan) (f : Figures) (r : ℕ) (e : Event) → (figures_after p f r e).accepted ≡ f.accepted + 1
unfolding figures_after
accepted_moved p f r (Release t) = refl
accepted_moved p f r (Acquire l) = refl
accepted_moved p f r (Unlock l) = refl
accepted_moved p f r (Work a) = refl
accepted_moved p f r Finish = refl
accepted_moved p f r Tick = refl

pub calls_moved : (p : Plan) (f : Figures) (r : ℕ) (e : Event) → (figures_after p f r e).eager ≡ f.eager + eager_calls p f (figures_after p f r e) r e
unfolding figures_after eager_calls priority_of
calls_moved p f r (Release t) = refl
calls_moved p f r (Acquire l) = refl
calls_moved p f r (Unlock l) = refl
calls_moved p f r (Work a) = refl
calls_moved p f r Finish = refl
calls_moved p f r Tick = refl

-- no event has more than one
pub eager_once : (p : Plan) (f g : Figures) (r : ℕ) (e : Event) → eager_calls p f g r e ≤ 1
unfolding eager_calls differs
eager_once p f g r (Release t) = omega arith
eager_once p f g r (Acquire l) = either (λ n. n ≤ 1) _ 0 1 (omega arith) (omega arith)
eager_once p f g r (Unlock l) = either (λ n. n ≤ 1) _ 0 1 (omega arith) (omega arith)
eager_once p f g r (Work a) = omega arith
eager_once p f g r Finish = omega arith
eager_once p f g r Tick = omega arith

-- ---- what a task's priority goes by

-- these figures of task x are the same
pub record Same (f g : Figures) (x : ℕ) : Type 0 where
  pub released : at g.released x ≡ at f.released x
  pub depth : at g.depth x ≡ at f.depth x
  pub takes : at g.takes x ≡ at f.takes x

pub same_priority : (p : Plan) {f g : Figures} {x : ℕ} → Same f g x → priority_of p g x ≡ priority_of p f x
unfolding priority_of
same_priority p {f} {g} {x} s = ap₂ (priority (at p.ceiling) (at p.base x)) s.takes s.depth

pub same_rank : (p : Plan) {f g : Figures} {x : ℕ} → Same f g x → rank_of p g x ≡ rank_of p f x
unfolding rank_of
same_rank p {f} {g} {x} s = ap₂ (λ a b. if ltb 0 a then b else 0) s.released (same_priority p s)

pub same_holds : {f g : Figures} {x : ℕ} → Same f g x → (l : ℕ) → holds g x l ≡ holds f x l
unfolding holds
same_holds s l = ap₂ (λ a b. has a b l) s.takes s.depth

-- a row of none holds no lock
pub none_depth : (f : Figures) (x l : ℕ) → at f.depth x ≡ 0 → holds f x l ≡ false
unfolding holds
none_depth f x l z = ap (λ k. has (at f.takes x) k l) z ∙ has_none (at f.takes x) l

module _ {p : Plan} {f : Figures} (F : SoundFigures p f) where
  -- a released task is one of the plan's
  pub inside : (x : ℕ) → 0 < at f.released x → x < p.tasks
  inside x o = ⊎_elim (λ l. l) (λ l. absurd (omega (arith, (F.no_task x l).0))) (lt_or_le x p.tasks)

  -- who holds a lock is released
  pub holder_out : (x l : ℕ) → holds f x l ≡ true → 0 < at f.released x
  holder_out x l h = ⊎_elim (λ z. untrue (sym h ∙ none_depth f x l (F.resting x z))) (λ o. o) (eq-zero-or-pos (at f.released x))

-- ---- a fresh start

pub fresh_sized : Sized fresh_figures
fresh_sized = record {
  released = length-replicate {A = ℕ} max_tasks 0;
  delay = length-replicate {A = ℕ} max_tasks 0;
  depth = length-replicate {A = ℕ} max_tasks 0;
  takes = length-replicate {A = ℕ} max_tasks 0;
  units = length-replicate {A = ℕ} max_locks 0;
}

pub fresh_shut : (x l : ℕ) → holds fresh_figures x l ≡ false
fresh_shut x l = none_depth fresh_figures x l (zero_past max_tasks x)

pub fresh_figured : (p : Plan) → SoundFigures p fresh_figures
fresh_figured p = record {
  events = omega arith;
  numbers = λ x. omega (arith, task x);
  differ = λ x y o. absurd (omega (arith, task x));
  eager = omega arith;
  depth = λ x. omega (arith, task x);
  known = λ x l h. untrue (sym h ∙ fresh_shut x l);
  declared = λ x l h. untrue (sym h ∙ fresh_shut x l);
  resting = λ x z. task x;
  alone = λ x y l h. untrue (sym h ∙ fresh_shut x l);
  limits = λ l. omega (arith, zero_past max_locks l);
  delays = λ x. omega (arith, task x);
  closed = λ l h. zero_past max_locks l;
  places = λ x. rw (task x) (omega arith);
  no_task = λ x h. (task x, task x);
}
  where
    task : (x : ℕ) → at (replicate max_tasks 0) x ≡ 0
    task = zero_past max_tasks

-- ---- an accepted event

-- where an event may be accepted: the plan obeys the rules, so do the figures, and there is room for one event more
pub record Stage (p : Plan) (f : Figures) : Type 0 where
  pub plan : Obeys p
  pub sized : Sized f
  pub figured : SoundFigures p f
  pub room : f.accepted < max_accepted

module _ {p : Plan} {f : Figures} (A : Stage p f) where
  abbrev O : Obeys p
  O = A.plan

  abbrev Z : Sized f
  Z = A.sized

  abbrev F : SoundFigures p f
  F = A.figured

  keep_tick : (r : ℕ) → SoundFigures p (figures_after p f r Tick)
  unfolding figures_after holds eager_calls
  keep_tick r = record {
    events = omega (arith, A.room);
    numbers = λ x. omega (arith, F.numbers x);
    differ = F.differ;
    eager = omega (arith, F.eager);
    depth = F.depth;
    known = F.known;
    declared = F.declared;
    resting = F.resting;
    alone = F.alone;
    limits = F.limits;
    delays = F.delays;
    closed = F.closed;
    places = F.places;
    no_task = F.no_task;
  }

  -- ---- release

  module _ {t : ℕ} (o : Releasable p f t) where
    pub t_place : t < max_tasks
    t_place = omega (arith, few_tasks O, o.known)

    pub release_number : (r : ℕ) → at (figures_after p f r (Release t)).released t ≡ f.accepted + 1
    unfolding figures_after
    release_number r = get_or-set_same f.released t (f.accepted + 1) 0 (omega (arith, t_place, Z.released))

    pub release_others : (r x : ℕ) → x ≢ t → at (figures_after p f r (Release t)).released x ≡ at f.released x
    unfolding figures_after
    release_others r x n = get_or-set_other f.released t x (f.accepted + 1) 0 n

    -- the delay starts anew
    pub release_delay : (r : ℕ) → at (figures_after p f r (Release t)).delay t ≡ 0
    unfolding figures_after
    release_delay r = get_or-set_same f.delay t _ 0 (omega (arith, t_place, Z.delay))

    pub release_delays : (r x : ℕ) → x ≢ t → at (figures_after p f r (Release t)).delay x ≡ at f.delay x
    unfolding figures_after
    release_delays r x n = get_or-set_other f.delay t x _ 0 n

    keep_release : (r : ℕ) → SoundFigures p (figures_after p f r (Release t))
    unfolding figures_after holds eager_calls
    keep_release r = record {
      events = omega (arith, A.room);
      numbers = at_or (λ x. at released x ≤ f.accepted + 1) t (omega (arith, release_number r)) (λ x n. omega (arith, release_others r x n, F.numbers x));
      differ = at_or (λ x. (y : ℕ) → 0 < at released x → at released x ≡ at released y → x ≡ y) t
          (at_or (λ y. 0 < at released t → at released t ≡ at released y → t ≡ y) t (λ u q. refl)
          (λ y n u q. absurd (omega (arith, release_number r, release_others r y n, F.numbers y))))
          (λ x n. at_or (λ y. 0 < at released x → at released x ≡ at released y → x ≡ y) t
          (λ u q. absurd (omega (arith, release_number r, release_others r x n, F.numbers x)))
          (λ y m u q. F.differ x y (omega (arith, release_others r x n)) (omega (arith, release_others r x n, release_others r y m))));
      eager = omega (arith, F.eager);
      depth = F.depth;
      known = F.known;
      declared = F.declared;
      resting = at_or (λ x. at released x ≡ 0 → at f.depth x ≡ 0) t (λ z. absurd (omega (arith, release_number r)))
          (λ x n z. F.resting x (omega (arith, release_others r x n)));
      alone = F.alone;
      limits = F.limits;
      delays = at_or (λ x. at (figures_after p f r (Release t)).delay x ≤ max_delay) t (omega (arith, release_delay r))
          (λ x n. omega (arith, release_delays r x n, F.delays x));
      closed = F.closed;
      places = F.places;
      no_task = λ x h. let n : x ≢ t = λ e. omega (arith, o.known) in (release_others r x n ∙ (F.no_task x h).0, release_delays r x n ∙ (F.no_task x h).1);
    }
      where
        released : List ℕ
        released = (figures_after p f r (Release t)).released

  -- ---- the running task r acts

  module _ {r : ℕ} (out : 0 < at f.released r) where
    pub r_place : r < max_tasks
    r_place = omega (arith, few_tasks O, inside F r out)

    keep_finish : Finishable f r → SoundFigures p (figures_after p f r Finish)
    unfolding figures_after holds eager_calls
    keep_finish o = record {
      events = omega (arith, A.room);
      numbers = at_or (λ x. at released x ≤ f.accepted + 1) r (omega (arith, here)) (λ x n. omega (arith, others x n, F.numbers x));
      differ = at_or (λ x. (y : ℕ) → 0 < at released x → at released x ≡ at released y → x ≡ y) r (λ y u. absurd (omega (arith, here)))
          (λ x n. at_or (λ y. 0 < at released x → at released x ≡ at released y → x ≡ y) r (λ u q. absurd (omega (arith, here)))
          (λ y m u q. F.differ x y (omega (arith, others x n)) (omega (arith, others x n, others y m))));
      eager = omega (arith, F.eager);
      depth = F.depth;
      known = F.known;
      declared = F.declared;
      resting = at_or (λ x. at released x ≡ 0 → at f.depth x ≡ 0) r (λ z. o.closed) (λ x n z. F.resting x (omega (arith, others x n)));
      alone = F.alone;
      limits = F.limits;
      delays = F.delays;
      closed = F.closed;
      places = F.places;
      no_task = λ x h. let n : x ≢ r = λ e. omega (arith, inside F r out) in (others x n ∙ (F.no_task x h).0, (F.no_task x h).1);
    }
      where
        released : List ℕ
        released = (figures_after p f r Finish).released

        here : at released r ≡ 0
        here = get_or-set_same f.released r 0 0 (omega (arith, r_place, Z.released))

        others : (x : ℕ) → x ≢ r → at released x ≡ at f.released x
        others x n = get_or-set_other f.released r x 0 0 n

    -- ---- acquire

    module _ {l : ℕ} (o : Takeable p f r l) where
      lock_byte : l < 256
      lock_byte = omega (arith, few_locks O, o.known)

      pub take_depth : at (figures_after p f r (Acquire l)).depth r ≡ suc (at f.depth r)
      unfolding figures_after
      take_depth = get_or-set_same f.depth r (at f.depth r + 1) 0 (omega (arith, r_place, Z.depth)) ∙ add-one (at f.depth r)

      pub take_row : at (figures_after p f r (Acquire l)).takes r ≡ pushed (at f.takes r) l
      unfolding figures_after
      take_row = get_or-set_same f.takes r (pushed (at f.takes r) l) 0 (omega (arith, r_place, Z.takes))

      pub take_helds : (x : ℕ) → x ≢ r → at (figures_after p f r (Acquire l)).depth x ≡ at f.depth x
      unfolding figures_after
      take_helds x n = get_or-set_other f.depth r x (at f.depth r + 1) 0 n

      pub take_rows : (x : ℕ) → x ≢ r → at (figures_after p f r (Acquire l)).takes x ≡ at f.takes x
      unfolding figures_after
      take_rows x n = get_or-set_other f.takes r x (pushed (at f.takes r) l) 0 n

      pub take_holds : (v : ℕ) → holds (figures_after p f r (Acquire l)) r v ≡ (eqb l v || holds f r v)
      unfolding holds
      take_holds v = ap₂ (λ a b. has a b v) take_row take_depth ∙ has_pushed (at f.takes r) (at f.depth r) l v lock_byte

      pub take_others : (x v : ℕ) → x ≢ r → holds (figures_after p f r (Acquire l)) x v ≡ holds f x v
      unfolding holds
      take_others x v n = ap₂ (λ a b. has a b v) (take_rows x n) (take_helds x n)

      -- there is one take of it more
      pub take_copies : (v : ℕ) → copies (at (figures_after p f r (Acquire l)).takes r) (at (figures_after p f r (Acquire l)).depth r) v
          ≡ (if eqb l v then 1 else 0) + copies (at f.takes r) (at f.depth r) v
      take_copies v = ap₂ (λ a b. copies a b v) take_row take_depth ∙ copies_pushed (at f.takes r) (at f.depth r) l v lock_byte

      -- nobody else has the lock open
      pub only : (y : ℕ) → y ≢ r → holds f y l ≡ true → ⊥
      unfolding elsewhere
      only y n h =
          untrue (sym (true_and (not (eqb y r)) (holds f y l) (ap not (ne_eqb y r n)) h)
          ∙ any_false (λ x. not (eqb x r) && holds f x l) p.tasks o.free y (inside F y (holder_out F y l h)))

      -- the lock is r's, or was held before
      was : (x v : ℕ) → holds (figures_after p f r (Acquire l)) x v ≡ true → ((x ≡ r) × (l ≡ v)) ⊎ (holds f x v ≡ true)
      was x v = at_or (λ x. holds g x v ≡ true → ((x ≡ r) × (l ≡ v)) ⊎ (holds f x v ≡ true)) r
          (λ h. ⊎_elim (λ e. inl (refl, eqb-true l v e)) (λ e. inr e) (or_true (eqb l v) (holds f r v) (sym (take_holds v) ∙ h)))
          (λ x n h. inr (sym (take_others x v n) ∙ h)) x
        where
          g : Figures
          g = figures_after p f r (Acquire l)

      keep_acquire : SoundFigures p (figures_after p f r (Acquire l))
      unfolding figures_after
      keep_acquire = record {
        events = omega (arith, A.room);
        numbers = λ x. omega (arith, F.numbers x);
        differ = F.differ;
        eager = omega (arith, F.eager, calls_moved p f r (Acquire l), eager_once p f g r (Acquire l));
        depth = at_or (λ x. at g.depth x ≤ max_takes) r (omega (arith, take_depth, o.room)) (λ x n. omega (arith, take_helds x n, F.depth x));
        known = λ x v h. ⊎_elim (λ (a, b). omega (arith, o.known)) (λ k. F.known x v k) (was x v h);
        declared = λ x v h. ⊎_elim (λ (a, b). rw (a, ← b) o.declared) (λ k. F.declared x v k) (was x v h);
        resting = at_or (λ x. at f.released x ≡ 0 → at g.depth x ≡ 0) r (λ z. absurd (omega arith)) (λ x n z. take_helds x n ∙ F.resting x z);
        alone = λ x y v h k. ⊎_elim
            (λ (a, b). ⊎_elim (λ (c, d). a ∙ sym c) (λ q. a ∙ sym (holder y (rw (← b) at q))) (was y v k))
            (λ q. ⊎_elim (λ (c, d). holder x (rw (← d) at q) ∙ sym c) (λ s. F.alone x y v q s) (was y v k)) (was x v h);
        limits = F.limits;
        delays = F.delays;
        closed = λ v h. F.closed v (at_or (λ x. holds f x v ≡ false) r (or_false (eqb l v) (holds f r v) (sym (take_holds v) ∙ h r)).1
            (λ x n. sym (take_others x v n) ∙ h x));
        places = at_or (λ x. at g.takes x < 256 ^ at g.depth x) r
            (rw (take_row, take_depth) (places_pushed (at f.takes r) (at f.depth r) l lock_byte (F.places r)))
            (λ x n. rw (take_rows x n, take_helds x n) (F.places x));
        no_task = F.no_task;
      }
        where
          g : Figures
          g = figures_after p f r (Acquire l)

          holder : (y : ℕ) → holds f y l ≡ true → y ≡ r
          holder = at_or (λ y. holds f y l ≡ true → y ≡ r) r (λ h. refl) (λ y n h. absurd (only y n h))

    -- ---- unlock

    module _ {l : ℕ} (o : Givable p f r l) where
      -- one take less
      pub less : ℕ
      less = at f.depth r - 1

      pub give_was : at f.depth r ≡ suc less
      unfolding less
      give_was = omega (arith, o.some)

      pub give_depth : at (figures_after p f r (Unlock l)).depth r ≡ less
      unfolding figures_after less
      give_depth = get_or-set_same f.depth r (at f.depth r - 1) 0 (omega (arith, r_place, Z.depth))

      pub give_row : at (figures_after p f r (Unlock l)).takes r ≡ under (at f.takes r)
      unfolding figures_after
      give_row = get_or-set_same f.takes r (under (at f.takes r)) 0 (omega (arith, r_place, Z.takes))

      pub give_helds : (x : ℕ) → x ≢ r → at (figures_after p f r (Unlock l)).depth x ≡ at f.depth x
      unfolding figures_after
      give_helds x n = get_or-set_other f.depth r x (at f.depth r - 1) 0 n

      pub give_rows : (x : ℕ) → x ≢ r → at (figures_after p f r (Unlock l)).takes x ≡ at f.takes x
      unfolding figures_after
      give_rows x n = get_or-set_other f.takes r x (under (at f.takes r)) 0 n

      pub give_holds : (v : ℕ) → holds f r v ≡ (eqb l v || holds (figures_after p f r (Unlock l)) r v)
      unfolding holds has
      give_holds v =
          ap (λ k. has (at f.takes r) k v) give_was
          ∙ ap₂ (λ a b. eqb a v || b) o.newest (sym (ap₂ (λ a b. has a b v) give_row give_depth))

      -- there is one take of it less
      pub give_copies : (v : ℕ) → copies (at f.takes r) (at f.depth r) v
          ≡ (if eqb l v then 1 else 0) + copies (at (figures_after p f r (Unlock l)).takes r) (at (figures_after p f r (Unlock l)).depth r) v
      give_copies v =
          ap (λ k. copies (at f.takes r) k v) give_was ∙ copies_suc (at f.takes r) less v
          ∙ ap₂ (λ a b. (if eqb a v then 1 else 0) + b) o.newest (sym (ap₂ (λ a b. copies a b v) give_row give_depth))

      pub give_others : (x v : ℕ) → x ≢ r → holds (figures_after p f r (Unlock l)) x v ≡ holds f x v
      unfolding holds
      give_others x v n = ap₂ (λ a b. has a b v) (give_rows x n) (give_helds x n)

      -- the lock was r's, and whether it stays so is what the rest of the row says
      pub give_mine : holds f r l ≡ true
      give_mine = give_holds l ∙ ap (λ t. t || holds (figures_after p f r (Unlock l)) r l) (eq-eqb l l refl)

      pub give_stays : holds (figures_after p f r (Unlock l)) r l ≡ stays_open f r l
      unfolding holds stays_open less
      give_stays = ap₂ (λ a b. has a b l) give_row give_depth

      pub give_rest : stays_open f r l ≡ has (under (at f.takes r)) less l
      unfolding stays_open less
      give_rest = refl

      -- the units of l are left where it stays open, and those of every other lock stay
      pub give_left : at (figures_after p f r (Unlock l)).units l ≡ left_of (stays_open f r l) (at f.units l)
      unfolding figures_after
      give_left = get_or-set_same f.units l (left_of (stays_open f r l) (at f.units l)) 0 (omega (arith, Z.units, few_locks O, o.known))

      pub give_units : (v : ℕ) → v ≢ l → at (figures_after p f r (Unlock l)).units v ≡ at f.units v
      unfolding figures_after
      give_units v n = get_or-set_other f.units l v (left_of (stays_open f r l) (at f.units l)) 0 n

      -- so do those of what r has open
      pub give_section : (v : ℕ) → holds (figures_after p f r (Unlock l)) r v ≡ true → at (figures_after p f r (Unlock l)).units v ≡ at f.units v
      give_section = at_or (λ v. holds (figures_after p f r (Unlock l)) r v ≡ true → at (figures_after p f r (Unlock l)).units v ≡ at f.units v) l
          (λ h. give_left ∙ left_same (stays_open f r l) (at f.units l) (sym give_stays ∙ h)) (λ v n h. give_units v n)

      -- what is open was open
      pub give_open : (x v : ℕ) → holds (figures_after p f r (Unlock l)) x v ≡ true → holds f x v ≡ true
      give_open x v = at_or (λ x. holds g x v ≡ true → holds f x v ≡ true) r
          (λ h. give_holds v ∙ by_test (eqb l v) (λ e. rw e) (λ e. rw e h))
          (λ x n h. sym (give_others x v n) ∙ h) x
        where
          g : Figures
          g = figures_after p f r (Unlock l)

      keep_unlock : SoundFigures p (figures_after p f r (Unlock l))
      unfolding figures_after
      keep_unlock = record {
        events = omega (arith, A.room);
        numbers = λ x. omega (arith, F.numbers x);
        differ = F.differ;
        eager = omega (arith, F.eager, calls_moved p f r (Unlock l), eager_once p f g r (Unlock l));
        depth = at_or (λ x. at g.depth x ≤ max_takes) r (omega (arith, give_depth, give_was, F.depth r)) (λ x n. omega (arith, give_helds x n, F.depth x));
        known = λ x v h. F.known x v (give_open x v h);
        declared = λ x v h. F.declared x v (give_open x v h);
        resting = at_or (λ x. at f.released x ≡ 0 → at g.depth x ≡ 0) r (λ z. absurd (omega arith)) (λ x n z. give_helds x n ∙ F.resting x z);
        alone = λ x y v h k. F.alone x y v (give_open x v h) (give_open y v k);
        limits = at_or (λ v. at g.units v ≤ at p.limit v) l (omega (arith, give_left, left_most (stays_open f r l) (at f.units l), F.limits l))
            (λ v n. omega (arith, give_units v n, F.limits v));
        delays = F.delays;
        closed = at_or (λ v. ((x : ℕ) → holds g x v ≡ false) → at g.units v ≡ 0) l
            (λ h. give_left ∙ left_none (stays_open f r l) (at f.units l) (sym give_stays ∙ h r))
            (λ v n h. give_units v n ∙ F.closed v (at_or (λ x. holds f x v ≡ false) r
            (give_holds v ∙ rw (ne_eqb l v (λ e. n (sym e))) (h r)) (λ x m. sym (give_others x v m) ∙ h x)));
        places = at_or (λ x. at g.takes x < 256 ^ at g.depth x) r
            (rw (give_row, give_depth) (places_under (at f.takes r) less (subst (λ k. at f.takes r < 256 ^ k) give_was (F.places r))))
            (λ x n. rw (give_rows x n, give_helds x n) (F.places x));
        no_task = F.no_task;
      }
        where
          g : Figures
          g = figures_after p f r (Unlock l)

    -- ---- work

    module _ {a : ℕ} (o : Workable p f r a) where
      -- the units of each lock after the work
      pub work_units : (l : ℕ) → at (figures_after p f r (Work a)).units l ≡ charged f r a l
      unfolding figures_after
      work_units l = ⊎_elim
          (λ h. renewed_at f.units (charged f r a) p.locks l 0 h (omega (arith, Z.units, few_locks O)))
          (λ h. renewed_rest f.units (charged f r a) p.locks l 0 h ∙ sym
          (charged_closed f r a l (not_so (holds f r l) (λ k. omega (arith, F.known r l k)))))
          (lt_or_le l p.locks)

      -- and the delay of each task
      pub work_delay : (t : ℕ) → at (figures_after p f r (Work a)).delay t ≡ delayed p f r a t
      unfolding figures_after
      work_delay t = ⊎_elim
          (λ h. renewed_at f.delay (delayed p f r a) p.tasks t 0 h (omega (arith, Z.delay, few_tasks O)))
          (λ h. renewed_rest f.delay (delayed p f r a) p.tasks t 0 h ∙ sym (delayed_same p f r a t (λ c. omega (arith, c.out, (F.no_task t h).0))))
          (lt_or_le t p.tasks)

      -- an open section has room for the work
      pub work_fits : (l : ℕ) → holds f r l ≡ true → at f.units l + a ≤ at p.limit l
      unfolding past_limit
      work_fits l h =
          ltb-false (at p.limit l) (at f.units l + a)
          (not_so (ltb (at p.limit l) (at f.units l + a))
          (λ q. untrue (sym (true_and (holds f r l) (ltb (at p.limit l) (at f.units l + a)) h q)
          ∙ any_false (λ v. holds f r v && ltb (at p.limit v) (at f.units v + a)) p.locks o.within l (F.known r l h))))

      work_within : (l : ℕ) → at (figures_after p f r (Work a)).units l ≤ at p.limit l
      work_within l = by_test (holds f r l)
          (λ e. omega (arith, work_units l, charged_open f r a l e, work_fits l e)) (λ e. omega (arith, work_units l, charged_closed f r a l e, F.limits l))

      work_stuck : (t : ℕ) → at (figures_after p f r (Work a)).delay t ≤ max_delay
      work_stuck t = ⊎_elim (λ (_, e). omega (arith, work_delay t)) (λ (_, e). omega (arith, work_delay t, F.delays t)) (delayed_cases p f r a t)

      work_closed : (l : ℕ) → ((x : ℕ) → holds f x l ≡ false) → at (figures_after p f r (Work a)).units l ≡ 0
      work_closed l h = work_units l ∙ charged_closed f r a l (h r) ∙ F.closed l h

      keep_work : SoundFigures p (figures_after p f r (Work a))
      unfolding figures_after holds eager_calls
      keep_work = record {
        events = omega (arith, A.room);
        numbers = λ x. omega (arith, F.numbers x);
        differ = F.differ;
        eager = omega (arith, F.eager);
        depth = F.depth;
        known = F.known;
        declared = F.declared;
        resting = F.resting;
        alone = F.alone;
        limits = work_within;
        delays = work_stuck;
        closed = work_closed;
        places = F.places;
        no_task = λ x h. ((F.no_task x h).0, renewed_rest f.delay (delayed p f r a) p.tasks x 0 h ∙ (F.no_task x h).1);
      }

  keep : (r : ℕ) → (r ≢ nobody → 0 < at f.released r) → (e : Event) → Allowed p f r e → SoundFigures p (figures_after p f r e)
  keep r out (Release t) o = keep_release o r
  keep r out (Acquire l) o = keep_acquire (out o.runs) o
  keep r out (Unlock l) o = keep_unlock (out o.runs) o
  keep r out (Work a) o = keep_work (out o.runs) o
  keep r out Finish o = keep_finish (out o.runs) o
  keep r out Tick o = keep_tick r

pub figured_kept : {p : Plan} → Obeys p → {f : Figures} → Sized f → SoundFigures p f → (r : ℕ) → (r ≢ nobody → 0 < at f.released r) → (e : Event)
    → refusal_of p f r e ≡ Ok tt → SoundFigures p (figures_after p f r e)
figured_kept {p} O {f} Z F r out e z = keep (record { plan = O; sized = Z; figured = F; room = passed_room p f r e z }) r out e (allowed p f r e z)
