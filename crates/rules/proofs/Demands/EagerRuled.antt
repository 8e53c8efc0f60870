-- What holds in every state that the eager scheduler comes to from a fresh start, and that its running task is the best. Assumes nothing.
use Rattle.std.specs.Prelude.{Ok, Err}
use Rattle.rules.specs.Numbers.Verdict.{Tested}
use mathlib.Core.Path.{◌≡◌, refl, sym, ◌∙◌}
use mathlib.Core.Logic.{◌≢◌, ⊎_elim}
use mathlib.Core.Bool.{true, false, not, ◌&&◌}
use mathlib.Core.List.{List}
use Prim.Native.Nat.{ℕ, zero, suc, ◌≤◌, ◌<◌}
use native.Mathlib.Nat.{eq-zero-or-pos}
use native.Mathlib.Numerals.{add-one}
use native.Mathlib.Omega.{arith}
use lib.Dec.{eqb}
use lib.Seq.{get_or-set_other}
use borrow.Author.Tests.{eqb-false, not-true}
use Rattle.rules.specs.Numbers.Capacity.{max_tasks, max_accepted, nobody}
use Rattle.rules.specs.Numbers.Place.{at, greatest}
use Rattle.rules.specs.Books.Plan.{Obeys, declares}
use Rattle.rules.specs.Schedulers.Figures.{Figures, Sized, fresh_figures, holds, priority_of, rank_of}
use Rattle.rules.specs.Schedulers.Elect.{elected}
use Rattle.rules.specs.Schedulers.EventRefusals.{elsewhere}
use Rattle.rules.specs.Schedulers.FiguresAfter.{figures_after}
use Rattle.rules.specs.Schedulers.Eager.{running_of, settle, eager_test, eager_step}
use Rattle.rules.specs.Soundness.Sound.{SoundFigures}
use Rattle.rules.specs.Demands.History.{event_at, eager_at}
use Rattle.rules.specs.declared.plan.Plan.{Plan}
use Rattle.rules.specs.declared.event.Event.{Event}
use Rattle.rules.specs.declared.event.Event.TheVariants.{Release, Acquire, Unlock, Work, Finish, Tick}
use Rattle.rules.proofs.Numbers.Choice.{untrue, not_so, and_true, lt_or_le}
use Rattle.rules.proofs.Numbers.Place.{zero_past, cleared, false_any, greatest_all}
use Rattle.rules.proofs.Numbers.Row.{priority_has}
use Rattle.rules.proofs.Schedulers.Elect.{Lead, elected_lead, elected_some, elected_one}
use Rattle.rules.proofs.Books.Obeyed.{few_tasks, base_some, ceiling_user}
use Rattle.rules.proofs.Schedulers.Passed.{Allowed, passed_room, allowed}
use Rattle.rules.proofs.Schedulers.FiguresKept as SoundFigures
use Rattle.rules.proofs.Schedulers.FiguresKept.{Same, same_priority, Stage, none_depth, inside, sized_moved, fresh_sized, fresh_figured, figured_kept}
use Rattle.rules.proofs.Schedulers.Rules.{rank_out, rank_in, base_priority, plain_priority}
use Rattle.rules.proofs.Demands.Urgency as Urgency
use Rattle.rules.proofs.Demands.Urgency.{Standing, Alike, Best, Early, Good}

-- the figures of the theory
abbrev pub standing : Plan → Figures → Standing
standing p f = record { number = at f.released; urgency = priority_of p f; depth = at f.depth }

pub same_alike : (p : Plan) {f g : Figures} {x : ℕ} → Same f g x → Alike (standing p f) (standing p g) x
same_alike p s = record { number = s.released; urgency = same_priority p s; depth = s.depth }

-- the invariant
pub record Ruled (p : Plan) (f : Figures) : Type 0 where
  pub sized : Sized f
  pub figured : SoundFigures p f
  pub early : Early (at p.base) (standing p f)

pub good : {p : Plan} {f : Figures} → Ruled p f → Good (at p.base) f.accepted (standing p f)
good {p} {f} R = record {
  own = λ x. record {
    above = base_priority p f x;
    plain = plain_priority p f x;
    holder = λ h. ⊎_elim (λ z. absurd (omega (arith, R.figured.resting x z))) (λ o. o) (eq-zero-or-pos (at f.released x));
  };
  numbers = R.figured.numbers;
  differ = R.figured.differ;
  early = R.early;
}

-- an open lock's ceiling is at most its holder's priority
pub pays : (p : Plan) (f : Figures) (x l : ℕ) → holds f x l ≡ true → at p.ceiling l ≤ priority_of p f x
unfolding holds priority_of
pays p f x l h = priority_has (at p.ceiling) (at p.base x) (at f.takes x) (at f.depth x) l h

-- who has a lock open has at least one take
holder_depth : (f : Figures) (x l : ℕ) → holds f x l ≡ true → 0 < at f.depth x
holder_depth f x l h = ⊎_elim (λ z. untrue (sym h ∙ none_depth f x l z)) (λ o. o) (eq-zero-or-pos (at f.depth x))

early_still : (p : Plan) (f g : Figures) → ((x : ℕ) → Same f g x) → Early (at p.base) (standing p f) → Early (at p.base) (standing p g)
early_still p f g same E x y c o l =
    omega (
      arith,
      same_priority p (same y),
      E x y (omega (arith, (same x).depth)) (omega (arith, (same y).released))
          (omega (arith, (same x).released, (same y).released)),
    )

module _ {p : Plan} (O : Obeys p) {f : Figures} (R : Ruled p f) where
  few : p.tasks ≤ nobody
  few = omega (arith, few_tasks O)

  -- a released task has a rank above 0
  ranked : (y : ℕ) → 0 < at f.released y → (y < p.tasks) × (rank_of p f y ≡ priority_of p f y) × (0 < rank_of p f y)
  ranked y o =
      let h : y < p.tasks = inside R.figured y o in
      (h, rank_out p f y o, omega (arith, rank_out p f y o, base_priority p f y, base_some O y h))

  -- ---- the running task

  -- somebody runs where somebody is released
  pub some_runs : (y : ℕ) → 0 < at f.released y → running_of p f ≢ nobody
  unfolding running_of
  some_runs y o = elected_one (at f.released) (rank_of p f) p.tasks few y (ranked y o).0 (ranked y o).2

  pub runs_best : running_of p f ≢ nobody → Best (standing p f) (running_of p f)
  unfolding running_of
  runs_best n =
      let h : 0 < greatest (rank_of p f) p.tasks = elected_some (at f.released) (rank_of p f) p.tasks few n in
      let L : Lead (at f.released) (rank_of p f) (greatest (rank_of p f) p.tasks) p.tasks q = elected_lead (at f.released) (rank_of p f)
      p.tasks few h in
      let o : 0 < at f.released q = ⊎_elim (λ z. absurd (omega (arith, L.keyed, rank_in p f q z))) (λ o. o) (eq-zero-or-pos (at f.released q)) in
      let t : (y : ℕ) → 0 < at f.released y → priority_of p f y ≤ priority_of p f q =
      λ y u. omega (arith, ranked y u, ranked q o, L.keyed, greatest_all (rank_of p f) p.tasks y (ranked y u).0) in
      record {
        out = o;
        top = t;
        tie = λ y u l. ⊎_elim (λ k. k)
            (λ k. let e : rank_of p f y ≡ greatest (rank_of p f) p.tasks = omega (arith, t y u, ranked y u, ranked q o, L.keyed) in
            absurd (omega (arith, L.first y (ranked y u).0 e))) (lt_or_le (priority_of p f y) (priority_of p f q));
      }
    where
      q : ℕ
      q = elected (at f.released) (rank_of p f) p.tasks

  -- and whoever is the best runs
  pub best_runs : (r : ℕ) → Best (standing p f) r → r ≡ running_of p f
  best_runs r b = Urgency.best_one (good R) r (running_of p f) b (runs_best (some_runs r b.out))

  pub runner_out : running_of p f ≢ nobody → 0 < at f.released (running_of p f)
  runner_out n = (runs_best n).out

  -- ---- refusal 17 is never given

  -- a lock that the best task may take is open for no other
  pub not_elsewhere : (r l : ℕ) → Best (standing p f) r → l < p.locks → declares p r l ≡ true → elsewhere f p.tasks r l ≡ false
  unfolding elsewhere
  not_elsewhere r l b hl d = false_any (λ x. not (eqb x r) && holds f x l) p.tasks
      (λ x q. not_so (not (eqb x r) && holds f x l) (λ t.
      let (u, h) = and_true (not (eqb x r)) (holds f x l) t in
      eqb-false x r (not-true (eqb x r) u)
      (Urgency.free (good R) r x (at p.ceiling l) b (ceiling_user O r l (inside R.figured r b.out) hl d) (holder_depth f x l h) (pays p f x l h))))

  -- ---- `early` is kept

  pub stage : f.accepted < max_accepted → Stage p f
  stage room = record { plan = O; sized = R.sized; figured = R.figured; room = room }

  early_kept : (e : Event) → f.accepted < max_accepted → Allowed p f (running_of p f) e → Early (at p.base) (standing p (figures_after p f (running_of p f) e))
  unfolding figures_after
  early_kept (Release t) room o =
      Urgency.early_release (good R) t
      (λ x n. same_alike p (record { released = SoundFigures.release_others (stage room) o r x n; depth = refl; takes = refl }))
      (SoundFigures.release_number (stage room) o r ∙ add-one f.accepted) (R.figured.resting t o.resting)
    where
      r : ℕ
      r = running_of p f
  early_kept (Acquire l) room o =
      Urgency.early_act (good R) r
      (λ x n. same_alike p (record {
        released = refl;
        depth = SoundFigures.take_helds (stage room) out o x n;
        takes = SoundFigures.take_rows (stage room) out o x n;
      }))
      (runs_best o.runs) refl
    where
      r : ℕ
      r = running_of p f

      out : 0 < at f.released r
      out = runner_out o.runs
  early_kept (Unlock l) room o =
      Urgency.early_act (good R) r
      (λ x n. same_alike p (record {
        released = refl;
        depth = SoundFigures.give_helds (stage room) out o x n;
        takes = SoundFigures.give_rows (stage room) out o x n;
      }))
      (runs_best o.runs) refl
    where
      r : ℕ
      r = running_of p f

      out : 0 < at f.released r
      out = runner_out o.runs
  early_kept (Work a) room o = early_still p f (figures_after p f (running_of p f) (Work a)) (λ x. record { released = refl; depth = refl; takes = refl })
      R.early
  early_kept Finish room o =
      Urgency.early_finish (good R) r
      (λ x n. same_alike p (record { released = get_or-set_other f.released r x 0 0 n; depth = refl; takes = refl }))
      (cleared f.released r) o.closed
    where
      r : ℕ
      r = running_of p f
  early_kept Tick room o = early_still p f (figures_after p f (running_of p f) Tick) (λ x. record { released = refl; depth = refl; takes = refl }) R.early

  pub ruled_kept : (e : Event) → eager_test p f e ≡ Ok tt → Ruled p (figures_after p f (running_of p f) e)
  unfolding eager_test
  ruled_kept e z = record {
    sized = sized_moved p f (running_of p f) e R.sized;
    figured = figured_kept O R.sized R.figured (running_of p f) runner_out e z;
    early = early_kept e (passed_room p f (running_of p f) e z) (allowed p f (running_of p f) e z);
  }

  settled : (t : Tested) (g : Figures) → (t ≡ Ok tt → Ruled p g) → Ruled p (settle t g f)
  unfolding settle
  settled (Ok _) g h = h refl
  settled (Err why) g h = R

  ruled_step : (e : Event) → Ruled p (eager_step p f e)
  unfolding eager_step
  ruled_step e = settled (eager_test p f e) (figures_after p f (running_of p f) e) (ruled_kept e)

pub ruled_fresh : (p : Plan) → Ruled p fresh_figures
ruled_fresh p = record { sized = fresh_sized; figured = fresh_figured p; early = λ x y c. absurd (omega (arith, zero_past max_tasks x)) }

-- at every place of a list
pub ruled_at : {p : Plan} → Obeys p → (es : List Event) (k : ℕ) → Ruled p (eager_at p es k)
unfolding eager_at
ruled_at {p} O es zero = ruled_fresh p
ruled_at O es (suc k) = ruled_step O (ruled_at O es k) (event_at es k)
