-- Lazy calls never exceed eager calls, by either protocol: a call puts back a word below the second word, which is at most the user word, so the acting task's
-- priority has fallen. And where the second protocol calls, another task is above the restored priority, so that the first calls too. Assumes nothing.
use Rattle.std.specs.Prelude.{Ok, if◌then◌else◌}
use mathlib.Core.Path.{◌≡◌, refl, sym, ◌∙◌, ap, subst}
use mathlib.Core.Logic.{◌≢◌}
use mathlib.Core.Bool.{Bool, true, false}
use mathlib.Core.List.{List}
use Prim.Native.Nat.{ℕ, zero, suc, ◌+◌, ◌≤◌}
use native.Mathlib.Omega.{arith}
use lib.Dec.{eqb}
use borrow.Author.Tests.{ne_eqb}
use Rattle.rules.specs.Numbers.Place.{sum}
use Rattle.rules.specs.Books.Plan.{Obeys}
use Rattle.rules.specs.Schedulers.Figures.{Figures, figures_of, priority_of}
use Rattle.rules.specs.Schedulers.EventRefusals.{refusal_of}
use Rattle.rules.specs.Schedulers.FiguresAfter.{differs, eager_calls, figures_after}
use Rattle.rules.specs.Schedulers.Eager.{running_of}
use Rattle.rules.specs.Schedulers.Lazy.{words_of, calls_for, back_of, lazy_call}
use Rattle.rules.specs.Demands.History.{event_at, eager_at, lazy_at, runner_at, accepted_at, calls_due, kernel_at, calls_at, lazy_count, eager_count}
use Rattle.rules.specs.Demands.Demand2.{Outranked, Demand2}
use Rattle.rules.specs.Demands.Fair.{Fair, Between}
use Rattle.rules.specs.declared.plan.Plan.{Plan}
use Rattle.rules.specs.declared.protocol.Protocol.{Protocol}
use Rattle.rules.specs.declared.protocol.Protocol.TheVariants.{Second, First}
use Rattle.rules.specs.declared.state.State.{State}
use Rattle.rules.specs.declared.event.Event.{Event}
use Rattle.rules.specs.declared.event.Event.TheVariants.{Release, Acquire, Unlock, Work, Finish, Tick}
use Rattle.rules.proofs.Numbers.Choice.{if_true, if_false, by_test}
use Rattle.rules.proofs.Schedulers.Passed.{Givable, passed_room, allowed}
use Rattle.rules.proofs.Schedulers.WordsKept as WordsKept
use Rattle.rules.proofs.Schedulers.Rules.{call_below}
use Rattle.rules.proofs.Soundness.SoundKept.{scene}
use Rattle.rules.proofs.Demands.History.{passed_at, next}
use Rattle.rules.proofs.Demands.Follow.{Follows, follows, same_figures, same_tests}
use Rattle.rules.proofs.Demands.Calls.{back_is, some_call, call_some, due, kernel_is}
use Rattle.rules.proofs.Demands.Demand2.{demand2}

-- priorities that differ are one call
differs_one : (a b : ℕ) → a ≢ b → differs a b ≡ 1
unfolding differs
differs_one a b n = if_false (eqb a b) 0 1 (ne_eqb a b n)

-- ---- one event

module _ {pr : Protocol} {p : Plan} {s : State} (F : Follows pr p s) where
  abbrev f : Figures
  f = figures_of s

  abbrev r : ℕ
  r = s.head.running

  -- a call puts back a word below the second word, which is at most the user word: so the priority has fallen
  fair_one : (e : Event) → refusal_of p f r e ≡ Ok tt → (if lazy_call (words_of s) e then 1 else 0) ≤ eager_calls p f (figures_after p f r e) r e
  unfolding lazy_call eager_calls
  fair_one (Release t) z = omega arith
  fair_one (Acquire l) z = omega arith
  fair_one (Unlock l) z = by_test (calls_for (back_of (words_of s)) s.head.next.0)
      (λ e. omega (arith, if_true {A = ℕ} _ 1 0 e, differs_one _ _ (fallen e)))
      (λ e. omega (arith, if_false {A = ℕ} _ 1 0 e))
    where
      o : Givable p f r l
      o = allowed p f r (Unlock l) z

      fallen : calls_for (back_of (words_of s)) s.head.next.0 ≡ true → priority_of p f r ≢ priority_of p (figures_after p f r (Unlock l)) r
      fallen e q = omega (
        arith,
        call_below (back_of (words_of s)) s.head.next.0 e,
        back_is F l z,
        F.at_most,
        WordsKept.user_priority (scene F.sound (passed_room p f r (Unlock l) z)) o.runs,
      )
  fair_one (Work a) z = omega arith
  fair_one Finish z = omega arith
  fair_one Tick z = omega arith

-- what an event adds to two sums
added : (t : Bool) (a b c d : ℕ) → a ≤ b → (t ≡ true → c ≤ d) → a + (if t then c else 0) ≤ b + (if t then d else 0)
added true a b c d h k = omega (arith, k refl)
added false a b c d h k = omega arith

module _ {p : Plan} (O : Obeys p) (es : List Event) where
  passed_at_lem : (pr : Protocol) (k : ℕ) → accepted_at p es k ≡ true
      → refusal_of p (figures_of (lazy_at pr p es k)) (lazy_at pr p es k).head.running (event_at es k) ≡ Ok tt
  passed_at_lem pr k a = sym (same_tests pr O es k) ∙ passed_at p es k a

  -- the event at place k, where it is accepted, has the calls that are due
  due_at : (pr : Protocol) (k : ℕ) → accepted_at p es k ≡ true → (if lazy_call (words_of (lazy_at pr p es k)) (event_at es k) then 1 else 0) ≡ calls_at pr p es k
  due_at pr k a = due (follows pr O es k) (kernel_at p es k) (kernel_is pr O es k) (event_at es k) (passed_at_lem pr k a)
      ∙ ap (λ f. calls_due pr p f (kernel_at p es k) (event_at es k)) (same_figures pr O es k)

  fair_event : (pr : Protocol) (k : ℕ) → accepted_at p es k ≡ true
      → calls_at pr p es k ≤ eager_calls p (eager_at p es k) (eager_at p es (suc k)) (runner_at p es k) (event_at es k)
  fair_event pr k a =
      let F : Follows pr p (lazy_at pr p es k) = follows pr O es k in
      let e : Event = event_at es k in
      let bit : ℕ = if lazy_call (words_of (lazy_at pr p es k)) e then 1 else 0 in
      let h : bit ≤ eager_calls p (eager_at p es k) (figures_after p (eager_at p es k) (runner_at p es k) e) (runner_at p es k) e =
      subst (λ (f : Figures). bit ≤ eager_calls p f (figures_after p f (running_of p f) e) (running_of p f) e) (same_figures pr O es k)
      (rw (← F.running) (fair_one F e (passed_at_lem pr k a))) in
      rw (next p es (record { event = refl; accepted = a })) (omega (arith, h, due_at pr k a))

  fair_counts : (pr : Protocol) (k : ℕ) → lazy_count pr p es k ≤ eager_count p es k
  unfolding lazy_count eager_count sum
  fair_counts pr zero = omega arith
  fair_counts pr (suc k) = added (accepted_at p es k) _ _ _ _ (fair_counts pr k) (fair_event pr k)

  pub fair : (pr : Protocol) (k : ℕ) → Fair pr p es k
  fair pr k =
      let D : Demand2 pr p es k = demand2 pr O es k in
      record { event = fair_event pr k; counts = fair_counts pr k; reported = omega (arith, D.lazy, D.eager, fair_counts pr k) }

-- ---- between the two protocols

module _ {p : Plan} {s₁ s₂ : State} (F₁ : Follows First p s₁) (F₂ : Follows Second p s₂) (same : figures_of s₁ ≡ figures_of s₂) where
  -- where the second calls, so does the first
  between_one : (e : Event) → refusal_of p (figures_of s₁) s₁.head.running e ≡ Ok tt
      → refusal_of p (figures_of s₂) s₂.head.running e ≡ Ok tt
      → (if lazy_call (words_of s₂) e then 1 else 0) ≤ (if lazy_call (words_of s₁) e then 1 else 0)
  unfolding lazy_call
  between_one (Release t) y z = omega arith
  between_one (Acquire l) y z = omega arith
  between_one (Unlock l) y z = by_test (calls_for (back_of (words_of s₂)) s₂.head.next.0)
      (λ e.
      let who : s₂.head.running ≡ s₁.head.running = F₂.running ∙ ap (running_of p) (sym same) ∙ sym F₁.running in
      let h : Outranked p (figures_of s₁) s₁.head.running l =
      subst (λ (f : Figures). Outranked p f s₁.head.running l) (sym same) (subst (λ r. Outranked p (figures_of s₂) r l) who (call_some F₂ l z e)) in
      omega (arith, if_true {A = ℕ} _ 1 0 (some_call F₁ l y h), if_true {A = ℕ} _ 1 0 e))
      (λ e. omega (arith, if_false {A = ℕ} _ 1 0 e))
  between_one (Work a) y z = omega arith
  between_one Finish y z = omega arith
  between_one Tick y z = omega arith

module _ {p : Plan} (O : Obeys p) (es : List Event) where
  both_figures : (k : ℕ) → figures_of (lazy_at First p es k) ≡ figures_of (lazy_at Second p es k)
  both_figures k = same_figures First O es k ∙ sym (same_figures Second O es k)

  between_event : (k : ℕ) → accepted_at p es k ≡ true → calls_at Second p es k ≤ calls_at First p es k
  between_event k a =
      omega (
        arith,
        due_at O es First k a,
        due_at O es Second k a,
        between_one (follows First O es k) (follows Second O es k) (both_figures k) (event_at es k) (passed_at_lem O es First k a) (passed_at_lem O es Second k a),
      )

  between_counts : (k : ℕ) → lazy_count Second p es k ≤ lazy_count First p es k
  unfolding lazy_count sum
  between_counts zero = omega arith
  between_counts (suc k) = added (accepted_at p es k) _ _ _ _ (between_counts k) (between_event k)

  pub between : (k : ℕ) → Between p es k
  between k =
      let D₁ : Demand2 First p es k = demand2 First O es k in
      let D₂ : Demand2 Second p es k = demand2 Second O es k in
      record {
        event = between_event k;
        counts = between_counts k;
        reported = omega (arith, D₁.lazy, D₂.lazy, between_counts k);
        fair = omega (arith, D₁.lazy, D₂.eager, (fair O es First k).counts);
        figures = both_figures k;
        running = D₁.running ∙ sym D₂.running;
      }
