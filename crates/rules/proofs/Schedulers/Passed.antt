-- What an accepted event has passed, and that the tests it passes accept it. Assumes nothing.
use Rattle.std.specs.Prelude.{Ok}
use mathlib.Core.Path.{◌≡◌}
use mathlib.Core.Logic.{◌≢◌}
use mathlib.Core.Bool.{true, false, not}
use Prim.Native.Nat.{ℕ, ◌<◌}
use native.Mathlib.Omega.{arith}
use lib.Dec.{eqb}
use borrow.Author.Tests.{eqb-true, eqb-false, ltb-false, leb-false, not-false, lt-leb, le-ltb, ne_eqb, eq-eqb}
use Rattle.rules.specs.Numbers.Capacity.{max_takes, max_accepted, nobody}
use Rattle.rules.specs.Numbers.Place.{at}
use Rattle.rules.specs.Numbers.Refusal.{number_of, first_true, test_for}
use Rattle.rules.specs.Numbers.Row.{newest}
use Rattle.rules.specs.Books.Plan.{declares}
use Rattle.rules.specs.Schedulers.Figures.{Figures}
use Rattle.rules.specs.Schedulers.EventRefusals.{elsewhere, not_newest, past_limit, tests_of, release_order, acquire_order}
use Rattle.rules.specs.Schedulers.EventRefusals.{unlock_order, work_order, finish_order, all_tests, refusal_of}
use Rattle.rules.specs.declared.plan.Plan.{Plan}
use Rattle.rules.specs.declared.event.Event.{Event}
use Rattle.rules.specs.declared.event.Event.TheVariants.{Release, Acquire, Unlock, Work, Finish, Tick}
use Rattle.rules.specs.declared.refusal.Refusal.TheVariants.{Exhausted, NobodyRuns, Unknown, AlreadyReleased, NotDeclared}
use Rattle.rules.specs.declared.refusal.Refusal.TheVariants.{OpenElsewhere, RowFull, NotNewest, NoWork, PastLimit, StillOpen}
use Rattle.rules.proofs.Numbers.Choice.{or_false}
use Rattle.rules.proofs.Numbers.Order.{none_holds}

pub record Releasable (p : Plan) (f : Figures) (t : ℕ) : Type 0 where
  pub known : t < p.tasks
  pub resting : at f.released t ≡ 0

pub record Takeable (p : Plan) (f : Figures) (r l : ℕ) : Type 0 where
  pub runs : r ≢ nobody
  pub known : l < p.locks
  pub declared : declares p r l ≡ true
  pub free : elsewhere f p.tasks r l ≡ false
  pub room : at f.depth r < max_takes

pub record Givable (p : Plan) (f : Figures) (r l : ℕ) : Type 0 where
  pub runs : r ≢ nobody
  pub known : l < p.locks
  pub some : 0 < at f.depth r
  pub newest : newest (at f.takes r) ≡ l

pub record Workable (p : Plan) (f : Figures) (r a : ℕ) : Type 0 where
  pub some : 0 < a
  pub runs : r ≢ nobody
  pub within : past_limit p f r a ≡ false

pub record Finishable (f : Figures) (r : ℕ) : Type 0 where
  pub runs : r ≢ nobody
  pub closed : at f.depth r ≡ 0

abbrev pub Allowed : Plan → Figures → ℕ → Event → Type 0
Allowed p f r (Release t) = Releasable p f t
Allowed p f r (Acquire l) = Takeable p f r l
Allowed p f r (Unlock l) = Givable p f r l
Allowed p f r (Work a) = Workable p f r a
Allowed p f r Finish = Finishable f r
Allowed p f r Tick = Unit {0}

module _ (p : Plan) (f : Figures) (r : ℕ) where
  -- an event is accepted exactly where there is room for it and it passes its tests
  pub passed_room : (e : Event) → refusal_of p f r e ≡ Ok tt → f.accepted < max_accepted
  unfolding refusal_of test_for number_of
  passed_room e z = leb-false max_accepted f.accepted (none_holds (all_tests p f r e) z Exhausted)

  pub allowed : (e : Event) → refusal_of p f r e ≡ Ok tt → Allowed p f r e
  unfolding refusal_of tests_of release_order acquire_order unlock_order work_order finish_order not_newest test_for number_of
  allowed (Release t) z =
      let clean = none_holds (all_tests p f r (Release t)) z in
      record { known = leb-false p.tasks t (clean Unknown); resting = omega (arith, ltb-false 0 (at f.released t) (clean AlreadyReleased)) }
  allowed (Acquire l) z =
      let clean = none_holds (all_tests p f r (Acquire l)) z in
      record {
        runs = eqb-false r nobody (clean NobodyRuns);
        known = leb-false p.locks l (clean Unknown);
        declared = not-false (declares p r l) (clean NotDeclared);
        free = clean OpenElsewhere;
        room = leb-false max_takes (at f.depth r) (clean RowFull);
      }
  allowed (Unlock l) z =
      let clean = none_holds (all_tests p f r (Unlock l)) z in
      let (u, v) = or_false (eqb (at f.depth r) 0) (not (eqb (newest (at f.takes r)) l)) (clean NotNewest) in
      record {
        runs = eqb-false r nobody (clean NobodyRuns);
        known = leb-false p.locks l (clean Unknown);
        some = omega (arith, eqb-false (at f.depth r) 0 u);
        newest = eqb-true (newest (at f.takes r)) l (not-false (eqb (newest (at f.takes r)) l) v);
      }
  allowed (Work a) z =
      let clean = none_holds (all_tests p f r (Work a)) z in
      record { some = omega (arith, eqb-false a 0 (clean NoWork)); runs = eqb-false r nobody (clean NobodyRuns); within = clean PastLimit }
  allowed Finish z =
      let clean = none_holds (all_tests p f r Finish) z in
      record { runs = eqb-false r nobody (clean NobodyRuns); closed = omega (arith, ltb-false 0 (at f.depth r) (clean StillOpen)) }
  allowed Tick z = tt

  pub accepts : (e : Event) → f.accepted < max_accepted → Allowed p f r e → refusal_of p f r e ≡ Ok tt
  unfolding refusal_of tests_of release_order acquire_order unlock_order work_order finish_order not_newest first_true
  accepts (Release t) h o = rw (lt-leb max_accepted f.accepted h, lt-leb p.tasks t o.known, le-ltb 0 (at f.released t) (omega (arith, o.resting)))
  accepts (Acquire l) h o =
      rw (
        lt-leb max_accepted f.accepted h,
        ne_eqb r nobody o.runs,
        lt-leb p.locks l o.known,
        o.declared,
        o.free,
        lt-leb max_takes (at f.depth r) o.room,
      )
  accepts (Unlock l) h o =
      rw (
        lt-leb max_accepted f.accepted h,
        ne_eqb r nobody o.runs,
        lt-leb p.locks l o.known,
        ne_eqb (at f.depth r) 0 (λ e. omega (arith, o.some)),
        eq-eqb (newest (at f.takes r)) l o.newest,
      )
  accepts (Work a) h o = rw (lt-leb max_accepted f.accepted h, ne_eqb a 0 (λ e. omega (arith, o.some)), ne_eqb r nobody o.runs, o.within)
  accepts Finish h o = rw (lt-leb max_accepted f.accepted h, ne_eqb r nobody o.runs, le-ltb 0 (at f.depth r) (omega (arith, o.closed)))
  accepts Tick h o = rw (lt-leb max_accepted f.accepted h)
