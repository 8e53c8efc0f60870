-- The history of a list by the eager scheduler alone: each event is accepted, and moves the figures, or it changes nothing. Assumes nothing.
use Rattle.std.specs.Prelude.{Ok, Err, if◌then◌else◌}
use Rattle.rules.specs.Numbers.Verdict.{Tested}
use mathlib.Core.Path.{◌≡◌, refl, sym, ◌∙◌, ap, subst}
use mathlib.Core.Bool.{true, false}
use mathlib.Core.List.{List}
use Prim.Native.Nat.{ℕ, zero, suc, ◌+◌, ◌<◌}
use native.Mathlib.Omega.{arith}
use Rattle.rules.specs.Numbers.Capacity.{max_accepted}
use Rattle.rules.specs.Numbers.Place.{sum}
use Rattle.rules.specs.Schedulers.Figures.{Figures}
use Rattle.rules.specs.Schedulers.FiguresAfter.{eager_calls, figures_after}
use Rattle.rules.specs.Schedulers.Eager.{running_of, settle, eager_test, eager_step}
use Rattle.rules.specs.Numbers.Answer.{passes}
use Rattle.rules.specs.Demands.History.{event_at, eager_at, runner_at, accepted_at, eager_count}
use Rattle.rules.specs.Demands.Job.{Accepted}
use Rattle.rules.specs.declared.plan.Plan.{Plan}
use Rattle.rules.specs.declared.event.Event.{Event}
use Rattle.rules.proofs.Numbers.Choice.{by_test, untrue}
use Rattle.rules.proofs.Numbers.Order.{passes_so}
use Rattle.rules.proofs.Schedulers.Passed.{Allowed, passed_room, allowed}
use Rattle.rules.proofs.Schedulers.FiguresKept.{accepted_moved, calls_moved}

step_passed : (p : Plan) (f : Figures) (e : Event) → eager_test p f e ≡ Ok tt → eager_step p f e ≡ figures_after p f (running_of p f) e
unfolding eager_step settle
step_passed p f e z = ap (λ t. settle t (figures_after p f (running_of p f) e) f) z

refused_still : (t : Tested) (g f : Figures) → passes t ≡ false → settle t g f ≡ f
unfolding settle passes
refused_still (Ok _) g f h = untrue h
refused_still (Err why) g f h = refl

step_refused : (p : Plan) (f : Figures) (e : Event) → passes (eager_test p f e) ≡ false → eager_step p f e ≡ f
unfolding eager_step
step_refused p f e h = refused_still (eager_test p f e) (figures_after p f (running_of p f) e) f h

-- what an event adds to the eager calls: those that it has, if it is accepted
step_calls : (p : Plan) (f : Figures) (e : Event) (t : Tested)
    → (settle t (figures_after p f (running_of p f) e) f).eager
    ≡ f.eager + (if passes t then eager_calls p f (settle t (figures_after p f (running_of p f) e) f) (running_of p f) e else 0)
unfolding settle passes
step_calls p f e (Ok _) = calls_moved p f (running_of p f) e
step_calls p f e (Err why) = omega arith

module _ (p : Plan) (es : List Event) where
  pub passed_at : (k : ℕ) → accepted_at p es k ≡ true → eager_test p (eager_at p es k) (event_at es k) ≡ Ok tt
  unfolding accepted_at
  passed_at k a = passes_so (eager_test p (eager_at p es k) (event_at es k)) a

  -- an event is accepted, or it changes nothing
  pub each : (P : Figures → Type 0) (k : ℕ) → (accepted_at p es k ≡ true → P (figures_after p (eager_at p es k) (runner_at p es k) (event_at es k)))
      → (accepted_at p es k ≡ false → P (eager_at p es k)) → P (eager_at p es (suc k))
  unfolding eager_at accepted_at
  each P k yes' no' = by_test (accepted_at p es k)
      (λ a. subst P (sym (step_passed p (eager_at p es k) (event_at es k) (passed_at k a))) (yes' a))
      (λ a. subst P (sym (step_refused p (eager_at p es k) (event_at es k) a)) (no' a))

  pub room_at : (k : ℕ) → accepted_at p es k ≡ true → (eager_at p es k).accepted < max_accepted
  unfolding eager_test
  room_at k a = passed_room p (eager_at p es k) (runner_at p es k) (event_at es k) (passed_at k a)

  pub allowed_at : (k : ℕ) → accepted_at p es k ≡ true → Allowed p (eager_at p es k) (runner_at p es k) (event_at es k)
  unfolding eager_test
  allowed_at k a = allowed p (eager_at p es k) (runner_at p es k) (event_at es k) (passed_at k a)

  pub allowed_for : {k : ℕ} {e : Event} → Accepted p es k e → Allowed p (eager_at p es k) (runner_at p es k) e
  allowed_for {k} {e} a = subst (Allowed p (eager_at p es k) (runner_at p es k)) a.event (allowed_at k a.accepted)

  -- after an accepted event
  pub next : {k : ℕ} {e : Event} → Accepted p es k e → eager_at p es (suc k) ≡ figures_after p (eager_at p es k) (runner_at p es k) e
  next {k} {e} a = each (λ f. f ≡ figures_after p (eager_at p es k) (runner_at p es k) e) k
      (λ _. ap (figures_after p (eager_at p es k) (runner_at p es k)) a.event) (λ n. untrue (sym a.accepted ∙ n))

  -- where all events before place k are accepted, there are k of them
  pub all_counted : (k : ℕ) → ((j : ℕ) → j < k → accepted_at p es j ≡ true) → (eager_at p es k).accepted ≡ k
  unfolding eager_at
  all_counted zero f = refl
  all_counted (suc k) f =
      ap (λ (g : Figures). g.accepted) (next (record { event = refl; accepted = f k (omega arith) }))
      ∙ accepted_moved p (eager_at p es k) (runner_at p es k) (event_at es k)
      ∙ omega (arith, all_counted k (λ j q. f j (omega arith)))

  -- the count of eager calls is the one over the history
  pub eager_counted : (k : ℕ) → (eager_at p es k).eager ≡ eager_count p es k
  unfolding eager_at eager_step accepted_at eager_count sum
  eager_counted zero = refl
  eager_counted (suc k) =
      step_calls p (eager_at p es k) (event_at es k) (eager_test p (eager_at p es k) (event_at es k)) ∙ omega (arith, eager_counted k)
