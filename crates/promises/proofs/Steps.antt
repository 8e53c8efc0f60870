-- Demands 2 and 3, that the kernel cuts nothing, that a take of an open lock raises nothing and that sections count their work, said of a run of `step` from
-- a fresh start; the second of every state that `sound` accepts. Assumes nothing.
use mathlib.Core.Path.{◌≡◌, sym, ◌∙◌, ap, subst}
use mathlib.Core.Bool.{Bool, true}
use mathlib.Core.List.{List}
use Prim.Native.Nat.{ℕ, zero, suc}
use native.Mathlib.Omega.{arith}
use Rattle.rules.specs.Numbers.Place.{at}
use Rattle.rules.specs.Books.Plan.{Obeys}
use Rattle.rules.specs.Schedulers.Figures.{holds}
use Rattle.rules.specs.Replays.Step.{step_of}
use Rattle.rules.specs.Demands.History.{event_at, lazy_at}
use Rattle.rules.specs.Demands.Job.{own_total}
use Rattle.rules.specs.Demands.Demand2.{Demand2}
use Rattle.rules.specs.Demands.Fair.{Between}
use Rattle.rules.specs.Demands.Maximum.{Uncut}
use Rattle.rules.specs.declared.plan.Plan.{Plan}
use Rattle.rules.specs.declared.protocol.Protocol.{Protocol}
use Rattle.rules.specs.declared.protocol.Protocol.TheVariants.{Second, First}
use Rattle.rules.specs.declared.state.State.{State}
use Rattle.rules.specs.declared.event.Event.{Event}
use Rattle.rules.specs.declared.answer.Stepped.{Stepped}
use Rattle.rules.proofs.Demands.Demand2.{demand2}
use Rattle.rules.proofs.Demands.Maximum.{maximum}
use Rattle.rules.proofs.Demands.Again.{taken_at}
use Rattle.rules.proofs.Demands.Fair.{fair, between}
use Rattle.rules.proofs.Demands.Sections.{sections_counted}
use Rattle.rules.proofs.Demands.Jobs.{late_at, delays_same, delay_counted}
use Rattle.rules.proofs.Soundness.SoundTest.{sound_is}
use Rattle.sound.proofs.sound.Reads as sound
use Rattle.promises.specs.Stepping.{StepsTo, ComesTo, StepAt, SideBySide}

module _ (pr : Protocol) {p : Plan} (O : Obeys p) (es : List Event) where
  -- the state is the history's
  comes_to : (k : ℕ) (s : State) → ComesTo pr p es k s → s ≡ lazy_at pr p es k
  unfolding ComesTo lazy_at
  comes_to zero s h = h
  comes_to (suc k) s (t, r, before, stepped, e) =
      e ∙ ap (λ (q : Stepped). q.state) stepped ∙ ap (λ (u : State). (step_of pr p u (event_at es k)).state) (comes_to k t before)

  at_place : (k : ℕ) → StepAt pr p es k (step_of pr p (lazy_at pr p es k) (event_at es k))
  unfolding lazy_at
  at_place k =
      let D : Demand2 pr p es k = demand2 pr O es k in
      let E : Demand2 pr p es (suc k) = demand2 pr O es (suc k) in
      record {
        figures = E.figures;
        running = E.running;
        user = E.user;
        covers = E.covers;
        at_most = E.at_most;
        word = E.word;
        uncut = maximum.fresh pr p O es (suc k);
        again = λ l h. taken_at pr O es (suc k) l h;
        sections = λ x l a S. let e : at (lazy_at pr p es (suc k)).units l ≡ own_total p es x a (suc k) = (sections_counted O es pr).units (suc k) x l a S in
            (e, omega (arith, e, (sections_counted O es pr).within (suc k) x l a S));
        one_holder = subst (λ f. (x y l : ℕ) → holds f x l ≡ true → holds f y l ≡ true → x ≡ y) (sym E.figures) E.one_holder;
        lazy = E.lazy;
        eager = E.eager;
        fair = (fair O es pr (suc k)).reported;
        delays = delay_counted O es pr (suc k);
        bounded = λ t n h. omega (arith, h, delays_same O es pr (suc k) t, (late_at O es (suc k)).bounded t);
        number = D.answers;
        no10 = D.no10;
        no17 = D.no17;
        once = D.calls;
        unlock = D.unlock;
        outranked = D.outranked;
        acquire = D.acquire;
      }

  -- at every place of every list
  pub steps_keep : (k : ℕ) (s : State) (r : Stepped) → ComesTo pr p es k s → StepsTo pr p es k s r → StepAt pr p es k r
  steps_keep k s r before stepped =
      subst (StepAt pr p es k) (sym (stepped ∙ ap (λ (u : State). step_of pr p u (event_at es k)) (comes_to k s before))) (at_place k)

-- a state that `sound` accepts, of whatever origin, leaves the kernel nothing to cut
pub sound_uncut : (pr : Protocol) (p : Plan) (s : State) (r : Bool) → sound.Post tt (pr, (p, (s, tt))) r (pr, (p, (s, tt))) → r ≡ true → Uncut pr p s
sound_uncut pr p s r h e = maximum.sound pr p s ((sound_is pr p s).0 (sym h ∙ e))

-- and of two runs over one list, by the first protocol and by the second
pub steps_compare : {p : Plan} → Obeys p → (es : List Event) (k : ℕ) (first second : State) → ComesTo First p es k first → ComesTo Second p es k second
    → SideBySide first second
steps_compare {p} O es k first second h g =
    let B : Between p es k = between O es k in
    subst (λ (x : State). SideBySide x second) (sym (comes_to First O es k first h))
    (subst (SideBySide (lazy_at First p es k)) (sym (comes_to Second O es k second g))
    (record { figures = B.figures; running = B.running; fewer = B.reported; fair = (fair O es First k).reported }))
