-- Demand 2 holds: of every plan that obeys the rules, every list of events and every place of it. Assumes nothing.
use Rattle.std.specs.Prelude.{Ok, Err, if◌then◌else◌}
use Rattle.rules.specs.Numbers.Verdict.{Tested}
use mathlib.Core.Path.{◌≡◌, refl, sym, ◌∙◌, ap, ap₂, subst}
use mathlib.Core.Logic.{◌≢◌, ⊎_elim, ◌↔◌}
use mathlib.Core.Bool.{true}
use mathlib.Core.List.{List}
use Prim.Native.Nat.{ℕ, ◌≤◌, ◌<◌}
use native.Mathlib.Nat.{eq-zero-or-pos}
use native.Mathlib.Omega.{arith}
use borrow.Author.Tests.{eqb-false, leb-false, not-false}
use Rattle.rules.specs.Numbers.Capacity.{nobody}
use Rattle.rules.specs.Numbers.Place.{at, greatest}
use Rattle.rules.specs.Numbers.Refusal.{number_of, test_for, tests_before, Given}
use Rattle.rules.specs.Books.Plan.{Obeys, declares}
use Rattle.rules.specs.Schedulers.Figures.{Figures, figures_of, rank_of}
use Rattle.rules.specs.Schedulers.EventRefusals.{tests_of, release_order, acquire_order, unlock_order, work_order, finish_order, all_tests, refusal_of}
use Rattle.rules.specs.Schedulers.Eager.{running_of, eager_test}
use Rattle.rules.specs.Schedulers.Lazy.{words_of, calls_for, back_of, lazy_call}
use Rattle.rules.specs.Soundness.Sound.{kept_of, saved_of, SoundSecond}
use Rattle.rules.specs.Replays.Step.{after_of, answered, act_of, step_of}
use Rattle.rules.specs.Numbers.Answer.{passes, tested_number, answer_number, answer_calls}
use Rattle.rules.specs.Demands.History.{event_at, eager_at, lazy_at, runner_at, accepted_at, restored_of}
use Rattle.rules.specs.Demands.Demand2.{Covers, NextWord, Outranked, OwnWord, OwnCall, Demand2}
use Rattle.rules.specs.declared.plan.Plan.{Plan}
use Rattle.rules.specs.declared.protocol.Protocol.{Protocol}
use Rattle.rules.specs.declared.protocol.Protocol.TheVariants.{Second, First}
use Rattle.rules.specs.declared.state.State.{State}
use Rattle.rules.specs.declared.refusal.Refusal.TheVariants.{Unsound, NobodyRuns, Unknown, NotDeclared, OpenElsewhere}
use Rattle.rules.specs.declared.event.Event.{Event}
use Rattle.rules.specs.declared.event.Event.TheVariants.{Release, Acquire, Unlock, Work, Finish, Tick}
use Rattle.rules.proofs.Numbers.Choice.{if_true, if_false, by_test, either, untrue, at_or}
use Rattle.rules.proofs.Numbers.Place.{greatest_least}
use Rattle.rules.proofs.Numbers.Order.{passes_so, among, once, none_holds, never_given, given_holds, number_given}
use Rattle.rules.proofs.Schedulers.Rules.{call_below, below_call, rank_out, rank_in, kept_own, kept_other}
use Rattle.rules.proofs.Soundness.SoundKept.{step_act}
use Rattle.rules.proofs.Demands.History.{eager_counted}
use Rattle.rules.proofs.Demands.EagerRuled.{Ruled, runs_best, some_runs, not_elsewhere, ruled_at}
use Rattle.rules.proofs.Demands.Follow.{Follows, same_test, follows, same_figures, same_running}
use Rattle.rules.proofs.Replays.OneStep.{answered_number}
use Rattle.rules.proofs.Demands.Calls.{back_is, call_some, some_call, KernelIs, kernel_is, lazy_counted}

-- ---- no event is refused with 10 or 17

-- no test of an event gives 10
never_unsound : (p : Plan) (f : Figures) (e : Event) → Given Unsound (eager_test p f e) → ⊥
unfolding eager_test refusal_of tests_of release_order acquire_order unlock_order work_order finish_order among number_of
never_unsound p f (Release t) G = never_given _ Unsound refl G
never_unsound p f (Acquire l) G = never_given _ Unsound refl G
never_unsound p f (Unlock l) G = never_given _ Unsound refl G
never_unsound p f (Work a) G = never_given _ Unsound refl G
never_unsound p f Finish G = never_given _ Unsound refl G
never_unsound p f Tick G = never_given _ Unsound refl G

never10 : (p : Plan) (f : Figures) (e : Event) → tested_number (eager_test p f e) ≢ 10
unfolding number_of
never10 p f e q = never_unsound p f e ((number_given (eager_test p f e) Unsound).0 q)

module _ {p : Plan} (O : Obeys p) {f : Figures} (R : Ruled p f) where
  abbrev r : ℕ
  r = running_of p f

  -- only an acquire has a test that gives 17, and where those before it do not hold the lock is open for no other task
  never_elsewhere : (e : Event) → Given OpenElsewhere (eager_test p f e) → ⊥
  unfolding eager_test refusal_of tests_of release_order acquire_order unlock_order work_order finish_order test_for tests_before among once number_of
  never_elsewhere (Release t) G = never_given _ OpenElsewhere refl G
  never_elsewhere (Acquire l) G =
      let (so, before) = given_holds (all_tests p f r (Acquire l)) refl OpenElsewhere G in
      let clean = none_holds (tests_before OpenElsewhere (all_tests p f r (Acquire l))) before in
      untrue (sym so ∙ not_elsewhere O R r l (runs_best O R (eqb-false r nobody (clean NobodyRuns))) (leb-false p.locks l (clean Unknown))
      (not-false (declares p r l) (clean NotDeclared)))
  never_elsewhere (Unlock l) G = never_given _ OpenElsewhere refl G
  never_elsewhere (Work a) G = never_given _ OpenElsewhere refl G
  never_elsewhere Finish G = never_given _ OpenElsewhere refl G
  never_elsewhere Tick G = never_given _ OpenElsewhere refl G

  -- and nobody runs only where none is released
  idle_by : r ≡ nobody → (x : ℕ) → at f.released x ≡ 0
  idle_by e x = ⊎_elim (λ z. z) (λ o. absurd (some_runs O R x o e)) (eq-zero-or-pos (at f.released x))

  never17 : (e : Event) → tested_number (eager_test p f e) ≢ 17
  unfolding number_of
  never17 e q = never_elsewhere e ((number_given (eager_test p f e) OpenElsewhere).0 q)

-- ---- one place

module _ {pr : Protocol} {p : Plan} {s : State} (F : Follows pr p s) where
  abbrev f : Figures
  f = figures_of s

  answers_by : (e : Event) → answer_number (step_of pr p s e).answer ≡ tested_number (eager_test p f e)
  unfolding act_of
  answers_by e = rw (step_act F.sound e, same_test F e) (answered_number (refusal_of p f s.head.running e) s (after_of pr p s e) (lazy_call (words_of s) e))

  -- the calls of an event that is accepted, and of one that is refused
  calls_by : (e : Event) (t : Tested) → answer_calls (answered t s (after_of pr p s e) (lazy_call (words_of s) e)).answer
      ≡ (if passes t then (if lazy_call (words_of s) e then 1 else 0) else 0)
  unfolding answered answer_calls passes
  calls_by e (Ok _) = refl
  calls_by e (Err why) = refl

  calls_are : (e : Event) → answer_calls (step_of pr p s e).answer ≡ (if passes (eager_test p f e) then (if lazy_call (words_of s) e then 1 else 0) else 0)
  unfolding act_of
  calls_are e = rw (step_act F.sound e, same_test F e) (calls_by e (refusal_of p f s.head.running e))

  calls_few : (e : Event) → answer_calls (step_of pr p s e).answer ≤ 1
  calls_few e = rw (calls_are e) (either (λ n. n ≤ 1) _ _ 0 (either (λ n. n ≤ 1) _ 1 0 (omega arith) (omega arith)) (omega arith))

  acquire_by : (l : ℕ) → answer_calls (step_of pr p s (Acquire l)).answer ≡ 0
  unfolding lazy_call
  acquire_by l = calls_are (Acquire l) ∙ by_test (passes (eager_test p f (Acquire l))) (λ e. rw e) (λ e. rw e)

  -- an accepted unlock is a call exactly where the rule says so; X is what the rule comes to
  unlock_by : (l : ℕ) (X : Type 0) → passes (eager_test p f (Unlock l)) ≡ true
      → (refusal_of p f s.head.running (Unlock l) ≡ Ok tt
      → (calls_for (back_of (words_of s)) s.head.next.0 ≡ true → X) × (X → calls_for (back_of (words_of s)) s.head.next.0 ≡ true))
      → (answer_calls (step_of pr p s (Unlock l)).answer ≡ 1) ↔ X
  unfolding lazy_call
  unlock_by l X a rule =
      let z : refusal_of p f s.head.running (Unlock l) ≡ Ok tt = sym (same_test F (Unlock l)) ∙ passes_so _ a in
      let c : answer_calls (step_of pr p s (Unlock l)).answer ≡ (if calls_for (back_of (words_of s)) s.head.next.0 then 1 else 0) = calls_are (Unlock l)
      ∙ if_true _ _ 0 a in (
        λ q. by_test (calls_for (back_of (words_of s)) s.head.next.0) (λ e. (rule z).0 e)
            (λ e. absurd (omega (arith, c, if_false {A = ℕ} (calls_for (back_of (words_of s)) s.head.next.0) 1 0 e))),
        λ q. c ∙ if_true _ 1 0 ((rule z).1 q),
      )

  -- by either protocol: where the second word is strictly above the restored priority, so always where another released task is
  unlock_word : (l : ℕ) → passes (eager_test p f (Unlock l)) ≡ true
      → (answer_calls (step_of pr p s (Unlock l)).answer ≡ 1) ↔ (restored_of p f l < s.head.next.0)
  unlock_word l a = unlock_by l (restored_of p f l < s.head.next.0) a (λ z.
      let b : back_of (words_of s) ≡ restored_of p f l = rw (← F.running) (back_is F l z) in
      (λ e. omega (arith, call_below (back_of (words_of s)) s.head.next.0 e), λ q. below_call (back_of (words_of s)) s.head.next.0 (omega arith)))

  unlock_outranked : (l : ℕ) → passes (eager_test p f (Unlock l)) ≡ true → Outranked p f (running_of p f) l → answer_calls (step_of pr p s (Unlock l)).answer ≡ 1
  unlock_outranked l a (y, m, u, h) = (unlock_word l a).1 (omega (arith, F.covers y (rw F.running m) u))

-- ---- the second protocol

module _ {p : Plan} {s : State} (F : Follows Second p s) where
  abbrev g : Figures
  g = figures_of s

  second_unlock : (l : ℕ) → passes (eager_test p g (Unlock l)) ≡ true
      → (answer_calls (step_of Second p s (Unlock l)).answer ≡ 1) ↔ Outranked p g (running_of p g) l
  second_unlock l a = rw (← F.running) (unlock_by F l (Outranked p g s.head.running l) a (λ z. (call_some F l z, some_call F l z)))

  next_by : NextWord p g (running_of p g) s.head.next.0
  unfolding SoundSecond
  next_by = rw (← F.running) (record {
    all = F.covers;
    least = λ v h.
        let n : s.head.next.0 ≡ greatest (kept_of p g s.head.running) p.tasks = F.sound.sound.words.next in
        rw n (greatest_least (kept_of p g s.head.running) v p.tasks
        (λ y l. at_or (λ y. kept_of p g s.head.running y ≤ v) s.head.running
        (omega (arith, kept_own p g s.head.running))
        (λ y m. ⊎_elim (λ z. omega (arith, kept_other p g s.head.running y m, rank_in p g y z))
        (λ o. omega (arith, kept_other p g s.head.running y m, rank_out p g y o, h y m o)) (eq-zero-or-pos (at g.released y))) y));
  })

-- ---- every place

module _ {p : Plan} (O : Obeys p) (es : List Event) (k : ℕ) where
  -- the event at place k is accepted by the lazy scheduler's figures
  accepted_here : (pr : Protocol) (l : ℕ) → event_at es k ≡ Unlock l → accepted_at p es k ≡ true
      → passes (eager_test p (figures_of (lazy_at pr p es k)) (Unlock l)) ≡ true
  unfolding accepted_at
  accepted_here pr l q a = rw (same_figures pr O es k) (subst (λ e. passes (eager_test p (eager_at p es k) e) ≡ true) q a)

  own_word : (pr : Protocol) → OwnWord pr p es k (lazy_at pr p es k).head.next.0
  unfolding OwnWord KernelIs
  own_word Second = rw (← same_figures Second O es k) (next_by (follows Second O es k))
  own_word First = sym (kernel_is First O es k)

  own_call : (pr : Protocol) (l : ℕ) → event_at es k ≡ Unlock l → accepted_at p es k ≡ true
      → OwnCall pr p es k l (answer_calls (step_of pr p (lazy_at pr p es k) (event_at es k)).answer)
  unfolding OwnCall KernelIs
  own_call Second l q a = rw (q, ← same_figures Second O es k) (second_unlock (follows Second O es k) l (accepted_here Second l q a))
  own_call First l q a =
      rw (q, ← same_figures First O es k, kernel_is First O es k) (unlock_word (follows First O es k) l (accepted_here First l q a))

  always_calls : (pr : Protocol) (l : ℕ) → event_at es k ≡ Unlock l → accepted_at p es k ≡ true → Outranked p (eager_at p es k) (runner_at p es k) l
      → answer_calls (step_of pr p (lazy_at pr p es k) (event_at es k)).answer ≡ 1
  always_calls pr l q a h = rw q (unlock_outranked (follows pr O es k) l (accepted_here pr l q a)
      (subst (λ (f : Figures). Outranked p f (running_of p f) l) (sym (same_figures pr O es k)) h))

pub demand2 : (pr : Protocol) {p : Plan} → Obeys p → (es : List Event) (k : ℕ) → Demand2 pr p es k
demand2 pr {p} O es k =
    let F : Follows pr p (lazy_at pr p es k) = follows pr O es k in
    let E : figures_of (lazy_at pr p es k) ≡ eager_at p es k = same_figures pr O es k in
    let R : Ruled p (eager_at p es k) = ruled_at O es k in
    let e : Event = event_at es k in
    let number : answer_number (step_of pr p (lazy_at pr p es k) e).answer ≡ tested_number (eager_test p (eager_at p es k) e) = answers_by F e
    ∙ ap (λ f. tested_number (eager_test p f e)) E in
    record {
      figures = E;
      running = same_running pr O es k;
      foremost = λ n. let b = runs_best O R n in record { released = b.out; greatest = b.top; earliest = b.tie };
      idle = idle_by O R;
      user = F.sound.sound.words.user ∙ ap₂ (rank_of p) E (same_running pr O es k);
      covers = subst (λ (f : Figures). Covers p f (running_of p f) (lazy_at pr p es k).head.next.0) E
          (rw (← F.running) F.covers);
      at_most = F.at_most;
      word = own_word O es k pr;
      kept = λ x. F.sound.sound.words.kept x ∙ ap₂ (λ f r. kept_of p f r x) E (same_running pr O es k);
      saved = λ x. F.sound.sound.words.saved x ∙ ap (λ f. saved_of p f x) E;
      answers = number;
      one_holder = R.figured.alone;
      no10 = λ q. never10 p (eager_at p es k) e (sym number ∙ q);
      no17 = λ q. never17 O R e (sym number ∙ q);
      unlock = own_call O es k pr;
      outranked = always_calls O es k pr;
      calls = calls_few F e;
      acquire = λ l q. rw q (acquire_by F l);
      lazy = lazy_counted pr O es k;
      eager = ap (λ (f : Figures). f.eager) E ∙ eager_counted p es k;
    }
