-- The run of the list that reaches the bound of a task, and that its events have records. Assumes nothing.
use mathlib.Core.Path.{refl, ◌∙◌, ap}
use mathlib.Core.List.{List, [], ◌∷◌}
use Prim.Native.Nat.{ℕ, zero, suc, ◌*◌, ◌≤◌, ◌<◌}
use native.Mathlib.Omega.{arith}
use lib.Dec.{eqb}
use lib.ListN.{length}
use borrow.Author.Tests.{ne_eqb}
use Rattle.rules.specs.Numbers.Place.{at}
use Rattle.rules.specs.Books.Event.{kind_of, id_of, amount_of, event_fault}
use Rattle.rules.specs.Books.Plan.{Obeys}
use Rattle.rules.specs.Schedulers.State.{fresh_of}
use Rattle.rules.specs.Schedulers.Figures.{Figures}
use Rattle.rules.specs.Replays.Run.{run_from}
use Rattle.rules.specs.Demands.Bound.{bound_of}
use Rattle.rules.specs.Demands.History.{event_at, eager_at, lazy_at, runner_at}
use Rattle.rules.specs.Demands.Demand3.{worst_case, Reached}
use Rattle.rules.specs.Demands.Replayed.{Reaches}
use Rattle.rules.specs.declared.plan.Plan.{Plan}
use Rattle.rules.specs.declared.protocol.Protocol.{Protocol}
use Rattle.rules.specs.declared.protocol.Protocol.TheVariants.{Second}
use Rattle.rules.specs.declared.state.State.{State}
use Rattle.rules.specs.declared.event.Event.{Event}
use Rattle.rules.specs.declared.event.Event.TheVariants.{Release, Acquire, Unlock, Work, Finish, Tick}
use Rattle.rules.proofs.Numbers.Choice.{by_test}
use Rattle.rules.proofs.Books.Obeyed.{few_tasks, few_locks}
use Rattle.rules.proofs.Schedulers.Passed.{Allowed}
use Rattle.rules.proofs.Demands.Late.{bound_small}
use Rattle.rules.proofs.Demands.History.{allowed_at}
use Rattle.rules.proofs.Demands.WorstCase.{reached}
use Rattle.rules.proofs.Books.WithEvents.{Recorded}
use Rattle.rules.proofs.Demands.Running.{ran_up_to, ran_whole}

-- an accepted event has a record, if its amount fits
allowed_recorded : {p : Plan} → Obeys p → (f : Figures) (r : ℕ) (e : Event) → Allowed p f r e → amount_of e < 65536 → Recorded e
unfolding event_fault kind_of id_of amount_of
allowed_recorded O f r (Release t) o h = record { right = refl; id = omega (arith, o.known, few_tasks O); amount = h }
allowed_recorded O f r (Acquire l) o h = record { right = refl; id = omega (arith, o.known, few_locks O); amount = h }
allowed_recorded O f r (Unlock l) o h = record { right = refl; id = omega (arith, o.known, few_locks O); amount = h }
allowed_recorded O f r (Work a) o h = record { right = ne_eqb a 0 (λ e. omega (arith, o.some)); id = omega arith; amount = h }
allowed_recorded O f r Finish o h = record { right = refl; id = omega arith; amount = h }
allowed_recorded O f r Tick o h = record { right = refl; id = omega arith; amount = h }

four_amounts : (u l t n k : ℕ) → amount_of (event_at (Release u ∷ Acquire l ∷ Release t ∷ Work n ∷ []) k) ≤ n
unfolding amount_of
four_amounts u l t n zero = omega arith
four_amounts u l t n (suc zero) = omega arith
four_amounts u l t n (suc (suc zero)) = omega arith
four_amounts u l t n (suc (suc (suc zero))) = omega arith
four_amounts u l t n (suc (suc (suc (suc k)))) = omega arith

one_amount : (t n k : ℕ) → amount_of (event_at (Release t ∷ []) k) ≤ n
unfolding amount_of
one_amount t n zero = omega arith
one_amount t n (suc k) = omega arith

module _ {p : Plan} (O : Obeys p) (t : ℕ) (h : t < p.tasks) where
  abbrev worst : List Event
  worst = worst_case p t

  pub worst_few : length worst ≤ 4
  unfolding worst_case
  worst_few = by_test (eqb (bound_of p t) 0) (λ e. rw e (omega arith)) (λ e. rw e (omega arith))

  worst_amounts : (k : ℕ) → amount_of (event_at worst k) ≤ bound_of p t
  unfolding worst_case
  worst_amounts k = by_test (eqb (bound_of p t) 0) (λ e. rw e (one_amount t (bound_of p t) k)) (λ e. rw e (four_amounts _ _ t (bound_of p t) k))

  pub worst_recorded : (k : ℕ) → k < length worst → Recorded (event_at worst k)
  worst_recorded k q =
      allowed_recorded O (eager_at p worst k) (runner_at p worst k) (event_at worst k) (allowed_at p worst k ((reached Second O t h).accepted k q))
      (omega (arith, worst_amounts k, bound_small O t))

  pub worst_reaches : (pr : Protocol) (rows : List ℕ) → length worst * 4 ≤ length rows → Reaches p worst t (run_from pr p worst 0 fresh_of rows)
  worst_reaches pr rows fits =
      let B : Reached pr p t = reached pr O t h in
      let R = ran_up_to pr O worst rows fits in
      let e = ran_whole pr O worst rows fits B.accepted in
      record {
        verdict = R.passed.1 e;
        released = B.released;
        job = B.job;
        delay = ap (λ (s : State). at s.delay t) (R.state ∙ ap (lazy_at pr p worst) e) ∙ B.delay;
      }
