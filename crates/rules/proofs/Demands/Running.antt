-- The run of a list from a fresh start: its rows, its verdict and its state keep demands 2 and 3. Assumes nothing.
use Rattle.std.specs.Prelude.{Ok, Err, if◌then◌else◌}
use Rattle.rules.specs.Numbers.Verdict.{Answer, refused_at}
use mathlib.Core.Path.{◌≡◌, refl, sym, ◌∙◌, ap, subst}
use mathlib.Core.Logic.{◌≢◌, ⊎_elim}
use mathlib.Core.Bool.{Bool, true}
use mathlib.Core.List.{List}
use Prim.Native.Nat.{ℕ, zero, suc, ◌+◌, ◌*◌, ◌≤◌, ◌<◌}
use native.Mathlib.Omega.{arith}
use lib.ListN.{length, drop, drop_of_length-le}
use lib.Seq.{drop-cons}
use Rattle.rules.specs.Numbers.Place.{at}
use Rattle.rules.specs.Books.Plan.{Obeys}
use Rattle.rules.specs.Schedulers.State.{fresh_of}
use Rattle.rules.specs.Schedulers.Figures.{Figures, figures_of, holds}
use Rattle.rules.specs.Schedulers.Eager.{eager_test}
use Rattle.rules.specs.Schedulers.Lazy.{words_of, lazy_call}
use Rattle.rules.specs.Replays.Step.{step_of}
use Rattle.rules.specs.Numbers.Answer.{passes, tested_number, answer_number, answer_calls, verdict_number, verdict_place}
use Rattle.rules.specs.Replays.Run.{Ran, with_row, onward, run_from}
use Rattle.rules.specs.Demands.History.{event_at, eager_at, lazy_at, accepted_at, calls_due, kernel_at, calls_at}
use Rattle.rules.specs.Demands.Demand2.{Demand2}
use Rattle.rules.specs.Demands.Replayed.{RowAt, RanUpTo}
use Rattle.rules.specs.declared.plan.Plan.{Plan}
use Rattle.rules.specs.declared.protocol.Protocol.{Protocol}
use Rattle.rules.specs.declared.state.Head.{Head}
use Rattle.rules.specs.declared.state.State.{State}
use Rattle.rules.specs.declared.refusal.Refusal.{Refusal}
use Rattle.rules.specs.declared.event.Event.{Event}
use Rattle.rules.specs.declared.event.Event.TheVariants.{Tick}
use Rattle.rules.proofs.Numbers.Choice.{lt_or_le}
use Rattle.rules.proofs.Numbers.Refusals.{numbered}
use Rattle.rules.proofs.Numbers.Place.{below}
use Rattle.rules.proofs.Demands.Follow.{follows, same_figures, same_tests}
use Rattle.rules.proofs.Demands.Calls.{due, kernel_is}
use Rattle.rules.proofs.Demands.Maximum.{maximum}
use Rattle.rules.proofs.Demands.Demand2.{demand2}
use Rattle.rules.proofs.Demands.Fair.{fair}
use Rattle.rules.proofs.Demands.History.{passed_at, all_counted}
use Rattle.rules.proofs.Demands.Sections.{sections_counted}
use Rattle.rules.proofs.Demands.Jobs.{late_at, delays_same, delay_counted, demand3}
use Rattle.rules.proofs.Replays.RowBytes.{row_length, row_other, row_running, row_user, row_next, row_call}
use Rattle.rules.proofs.Replays.OneStep.{step_accepts, step_refused, step_call}

-- the run has come to place k, and the row bytes are xs; at the start they were rows
record SoFar (pr : Protocol) (p : Plan) (es : List Event) (rows : List ℕ) (k : ℕ) (xs : List ℕ) : Type 0 where
  accepted : (j : ℕ) → j < k → accepted_at p es j ≡ true
  written : (j : ℕ) → j < k → RowAt pr p es j (at xs (j * 4)) (at xs (j * 4 + 1)) (at xs (j * 4 + 2)) (at xs (j * 4 + 3))
  stay : (i : ℕ) → k * 4 ≤ i → at xs i ≡ at rows i
  size : length xs ≡ length rows

-- the run ends at place a
record Ends (pr : Protocol) (p : Plan) (es : List Event) (rows : List ℕ) (ran : Ran) (a : ℕ) : Type 0 where
  within : a ≤ length es
  so_far : SoFar pr p es rows a ran.rows
  state : ran.state ≡ lazy_at pr p es a
  passed : a ≡ length es → ran.verdict ≡ Ok tt
  refused : a < length es
      → (why : Refusal) × (ran.verdict ≡ refused_at why a) × ((step_of pr p (lazy_at pr p es a) (event_at es a)).answer ≡ Err why)

module _ (pr : Protocol) {p : Plan} (O : Obeys p) (es : List Event) (rows : List ℕ) (room : length es * 4 ≤ length rows) where
  accepts_at : (k : ℕ) → accepted_at p es k ≡ true → (call : Bool) × ((step_of pr p (lazy_at pr p es k) (event_at es k)).answer ≡ Ok call)
  accepts_at k a = (
    lazy_call (words_of (lazy_at pr p es k)) (event_at es k),
    step_accepts (follows pr O es k).sound (event_at es k)
        (sym (same_tests pr O es k) ∙ passed_at p es k a),
  )

  -- an accepted event
  module _ (k : ℕ) (h : k < length es) (call : Bool) (said : (step_of pr p (lazy_at pr p es k) (event_at es k)).answer ≡ Ok call) where
    accepted_here : accepted_at p es k ≡ true
    unfolding accepted_at passes
    accepted_here = ap passes (same_tests pr O es k ∙ (step_call (follows pr O es k).sound (event_at es k) call said).0)

    calls_here : answer_calls (step_of pr p (lazy_at pr p es k) (event_at es k)).answer ≡ (if call then 1 else 0)
    unfolding answer_calls
    calls_here = ap answer_calls said

    due_here : (if call then 1 else 0) ≡ calls_at pr p es k
    due_here =
        let (z, c) = step_call (follows pr O es k).sound (event_at es k) call said in
        ap (λ c. if c then 1 else 0) c ∙ due (follows pr O es k) (kernel_at p es k) (kernel_is pr O es k) (event_at es k) z
        ∙ ap (λ f. calls_due pr p f (kernel_at p es k) (event_at es k)) (same_figures pr O es k)

    row_here : (xs : List ℕ) → length xs ≡ length rows → let ys = with_row xs k (lazy_at pr p es (suc k)).head call in RowAt pr p es k (at ys (k * 4))
        (at ys (k * 4 + 1)) (at ys (k * 4 + 2)) (at ys (k * 4 + 3))
    row_here xs z =
        let w : Head = (lazy_at pr p es (suc k)).head in
        let D : Demand2 pr p es (suc k) = demand2 pr O es (suc k) in
        let fits : k * 4 + 4 ≤ length xs = omega arith in
        rw (row_running xs k w call fits, row_user xs k w call fits, row_next xs k w call fits, row_call xs k w call fits) (record {
          runs = D.running;
          foremost = rw D.running D.foremost;
          idle = rw D.running D.idle;
          own = D.user;
          below = (maximum.fresh pr p O es (suc k)).user;
          covers = D.covers;
          at_most = D.at_most;
          word = D.word;
          due = due_here;
          once = rw (← calls_here) (demand2 pr O es k).calls;
          unlock = λ l e. rw (← calls_here) ((demand2 pr O es k).unlock l e accepted_here);
          outranked = λ l e h. sym calls_here ∙ (demand2 pr O es k).outranked l e accepted_here h;
          acquire = λ l e. sym calls_here ∙ (demand2 pr O es k).acquire l e;
        })

    further : (xs : List ℕ) → SoFar pr p es rows k xs → SoFar pr p es rows (suc k) (with_row xs k (lazy_at pr p es (suc k)).head call)
    further xs S =
        let other : (i : ℕ) → (k * 4 ≤ i → i < k * 4 + 4 → ⊥) → at (with_row xs k (lazy_at pr p es (suc k)).head call) i
        ≡ at xs i = row_other xs k (lazy_at pr p es (suc k)).head call in
        let ys : List ℕ = with_row xs k (lazy_at pr p es (suc k)).head call in
        record {
          accepted = below (λ j. accepted_at p es j ≡ true) k S.accepted accepted_here;
          written = below (λ j. RowAt pr p es j (at ys (j * 4)) (at ys (j * 4 + 1)) (at ys (j * 4 + 2)) (at ys (j * 4 + 3))) k
              (λ j q. rw (
                other (j * 4) (λ u v. omega arith),
                other (j * 4 + 1) (λ u v. omega arith),
                other (j * 4 + 2) (λ u v. omega arith),
                other (j * 4 + 3) (λ u v. omega arith),
              ) (S.written j q))
              (row_here xs S.size);
          stay = λ i q. other i (λ u v. omega arith) ∙ S.stay i (omega arith);
          size = row_length xs k (lazy_at pr p es (suc k)).head call ∙ S.size;
        }

  -- the event at place k, where `rest` runs after it
  turn : (k : ℕ) (xs : List ℕ) (rest : List Event) → k < length es → SoFar pr p es rows k xs
      → ((ys : List ℕ) → SoFar pr p es rows (suc k) ys → (a : ℕ) × Ends pr p es rows (run_from pr p rest (suc k) (lazy_at pr p es (suc k)) ys) a)
      → (a : ℕ) × Ends pr p es rows (onward (step_of pr p (lazy_at pr p es k) (event_at es k)).answer (step_of pr p (lazy_at pr p es k) (event_at es k)).state k xs
      (run_from pr p rest (suc k))) a
  unfolding onward lazy_at answer_number
  turn k xs rest h S on = go (step_of pr p (lazy_at pr p es k) (event_at es k)).answer refl
    where
      go : (answer : Answer) → (step_of pr p (lazy_at pr p es k) (event_at es k)).answer ≡ answer
          → (a : ℕ) × Ends pr p es rows (onward answer (step_of pr p (lazy_at pr p es k) (event_at es k)).state k xs (run_from pr p rest (suc k))) a
      go (Ok call) e = on (with_row xs k (lazy_at pr p es (suc k)).head call) (further k h call e xs S)
      go (Err why) e = (
        k,
        record {
          within = omega arith;
          so_far = S;
          state = step_refused (follows pr O es k).sound (event_at es k) why e;
          passed = λ q. absurd (omega arith);
          refused = λ _. (why, refl, e);
        },
      )

  -- the run from place k on comes to an end
  abbrev Ending : ℕ → List ℕ → Type 0
  Ending k xs = (a : ℕ) × Ends pr p es rows (run_from pr p (drop k es) k (lazy_at pr p es k) xs) a

  run_none : (k : ℕ) (xs : List ℕ) → k ≡ length es → SoFar pr p es rows k xs → Ending k xs
  unfolding run_from
  run_none k xs h S =
      rw (drop_of_length-le es {i = k} (omega arith)) (
        k,
        record {
          within = omega arith;
          so_far = S;
          state = refl;
          passed = λ _. refl;
          refused = λ q. absurd (omega arith);
        },
      )

  run_one : (k : ℕ) (xs : List ℕ) → k < length es → SoFar pr p es rows k xs → ((ys : List ℕ) → SoFar pr p es rows (suc k) ys → Ending (suc k) ys) → Ending k xs
  unfolding run_from
  run_one k xs h S on = rw (drop-cons es k Tick h) (turn k xs (drop (suc k) es) h S on)

  -- where n events are left
  run : (n k : ℕ) (xs : List ℕ) → k + n ≡ length es → SoFar pr p es rows k xs → Ending k xs
  run zero k xs h S = run_none k xs (omega arith) S
  run (suc n) k xs h S = run_one k xs (omega arith) S (λ ys. run n (suc k) ys (omega arith))

  module _ (ran : Ran) (a : ℕ) (E : Ends pr p es rows ran a) where
    count_said : ran.state.head.accepted ≡ a
    count_said = ap (λ (s : State). s.head.accepted) E.state ∙ ap (λ (f : Figures). f.accepted) (demand2 pr O es a).figures
        ∙ all_counted p es a E.so_far.accepted

    delay_said : (t : ℕ) → at ran.state.delay t ≡ at (lazy_at pr p es a).delay t
    delay_said t = ap (λ (s : State). at s.delay t) E.state

    module _ (h : a < length es) where
      number_is : verdict_number ran.verdict ≡ answer_number (step_of pr p (lazy_at pr p es a) (event_at es a)).answer
      unfolding verdict_number answer_number
      number_is = let (why, v, said) = E.refused h in ap verdict_number v ∙ ap answer_number (sym said)

      number_said : verdict_number ran.verdict ≡ tested_number (eager_test p (eager_at p es a) (event_at es a))
      number_said = number_is ∙ (demand2 pr O es a).answers

      place_said : verdict_place ran.verdict ≡ a
      unfolding verdict_place
      place_said = let (why, v, _) = E.refused h in ap verdict_place v

      not_passed : verdict_number ran.verdict ≢ 0
      unfolding verdict_number
      not_passed e = let (why, v, said) = E.refused h in omega (arith, (numbered why).0, ap verdict_number v, e)

    -- the number of a run is that of an event's answer, or 0
    never : (n : ℕ) → 0 < n → answer_number (step_of pr p (lazy_at pr p es a) (event_at es a)).answer ≢ n → verdict_number ran.verdict ≢ n
    unfolding verdict_number
    never n q f e = ⊎_elim (λ h. f (sym (number_is h) ∙ e)) (λ h. omega (arith, ap verdict_number (E.passed (omega (arith, E.within))), e))
        (lt_or_le a (length es))

    all_passed : verdict_number ran.verdict ≡ 0 → a ≡ length es
    all_passed v = ⊎_elim (λ h. absurd (not_passed h v)) (λ h. omega (arith, E.within)) (lt_or_le a (length es))

    none_passed : a ≡ length es → verdict_number ran.verdict ≡ 0
    unfolding verdict_number
    none_passed e = ap verdict_number (E.passed e)

    ran_so : RanUpTo pr p es rows ran a
    ran_so =
        let D : Demand2 pr p es a = demand2 pr O es a in
        record {
          within = E.within;
          accepted = E.so_far.accepted;
          state = E.state;
          passed = (all_passed, none_passed);
          number = number_said;
          place = place_said;
          no10 = never 10 (omega arith) D.no10;
          no17 = never 17 (omega arith) D.no17;
          written = E.so_far.written;
          stay = E.so_far.stay;
          size = E.so_far.size;
          one_holder = subst (λ f. (x y l : ℕ) → holds f x l ≡ true → holds f y l ≡ true → x ≡ y) (sym (ap figures_of E.state ∙ D.figures)) D.one_holder;
          lazy = ap (λ (s : State). s.head.lazy) E.state ∙ D.lazy;
          eager = ap (λ (s : State). s.head.eager) E.state ∙ D.eager;
          fair = subst (λ (s : State). s.head.lazy ≤ s.head.eager) (sym E.state) (fair O es pr a).reported;
          jobs = demand3 pr O es;
          sections = sections_counted O es pr;
          delays = λ t. delay_said t ∙ delay_counted O es pr a t;
          bounded = λ t. omega (arith, delay_said t, delays_same O es pr a t, (late_at O es a).bounded t);
          counted = λ t i J. delay_said t ∙ (demand3 pr O es t i J.begun).counted a J;
          reported = λ t i k J F h f. delay_said t ∙ (demand3 pr O es t i J.begun).reported k a J F h f;
        }

    -- a list whose events are all accepted runs to its end
    whole : ((k : ℕ) → k < length es → accepted_at p es k ≡ true) → a ≡ length es
    whole f = ⊎_elim
        (λ h. let (why, _, said) = E.refused h in
        let (call, so) = accepts_at a (f a h) in
        let z : ◌≡◌ {A = ℕ} 0 1 = cc in
        absurd (omega arith))
        (λ h. omega (arith, E.within)) (lt_or_le a (length es))

  start : Ending 0 rows
  start = run (length es) 0 rows (omega arith) (record {
    accepted = λ j q. absurd (omega arith);
    written = λ j q. absurd (omega arith);
    stay = λ i q. refl;
    size = refl;
  })

  pub ran_up_to : RanUpTo pr p es rows (run_from pr p es 0 fresh_of rows) (run_from pr p es 0 fresh_of rows).state.head.accepted
  unfolding lazy_at
  ran_up_to = let (a, E) = start in subst (RanUpTo pr p es rows (run_from pr p es 0 fresh_of rows)) (sym (count_said _ a E)) (ran_so _ a E)

  pub ran_whole : ((k : ℕ) → k < length es → accepted_at p es k ≡ true) → (run_from pr p es 0 fresh_of rows).state.head.accepted ≡ length es
  unfolding lazy_at
  ran_whole f = let (a, E) = start in count_said _ a E ∙ whole _ a E f
