-- The replay of every book keeps demands 2 and 3. Assumes nothing.
use Rattle.std.specs.Prelude.{Ok, Err}
use Rattle.rules.specs.Numbers.Verdict.{Verdict}
use mathlib.Core.Path.{◌≡◌, refl, sym, ◌∙◌, ap, subst}
use mathlib.Core.Logic.{⊎_elim}
use mathlib.Core.Bool.{true}
use mathlib.Core.List.{List}
use Prim.Native.Nat.{ℕ, ◌*◌, ◌≤◌, ◌<◌}
use native.Mathlib.Nat.{eq-zero-or-pos}
use native.Mathlib.Omega.{arith}
use lib.ListN.{length}
use borrow.Author.Tests.{ltb-false}
use Rattle.rules.specs.Numbers.Capacity.{max_events}
use Rattle.rules.specs.Numbers.Refusal.{number_of, check_for}
use Rattle.rules.specs.Numbers.Answer.{tested_number, verdict_number, verdict_place}
use Rattle.rules.specs.Books.Plan.{Obeys}
use Rattle.rules.specs.Books.Book.{count_at, plan_in, events_of, record_event, event_body, event_checks, check_of}
use Rattle.rules.specs.Schedulers.State.{fresh_of}
use Rattle.rules.specs.Schedulers.Figures.{figures_of}
use Rattle.rules.specs.Schedulers.Eager.{eager_test}
use Rattle.rules.specs.Replays.Run.{Ran, run_from}
use Rattle.rules.specs.Replays.Replay.{replay_as, replay_of}
use Rattle.rules.specs.Demands.Demand3.{worst_case}
use Rattle.rules.specs.Demands.History.{event_at, eager_at, lazy_at, accepted_at}
use Rattle.rules.specs.Demands.Fair.{Between}
use Rattle.rules.specs.Demands.Replayed.{RanUpTo, BookReaches, Promised, Compared, BothReplayed}
use Rattle.rules.specs.declared.plan.Plan.{Plan}
use Rattle.rules.specs.declared.protocol.Protocol.{Protocol}
use Rattle.rules.specs.declared.protocol.Protocol.TheVariants.{Second, First}
use Rattle.rules.specs.declared.state.State.{State}
use Rattle.rules.specs.declared.refusal.Refusal.TheVariants.{ShortRows}
use Rattle.rules.specs.declared.event.Event.{Event}
use Rattle.rules.proofs.Numbers.Choice.{lt_or_le}
use Rattle.rules.proofs.Numbers.Place.{length_from}
use Rattle.rules.proofs.Numbers.Refusals.{numbered}
use Rattle.rules.proofs.Numbers.Checks.{clean_for}
use Rattle.rules.proofs.Books.Passes.{check_passes, passed_obeys, passed_events}
use Rattle.rules.proofs.Books.WithEvents.{with_events, plan_same, events_same, bytes_with, accepted_with_lem}
use Rattle.rules.proofs.Demands.History.{passed_at}
use Rattle.rules.proofs.Demands.Fair.{between}
use Rattle.rules.proofs.Demands.Running.{ran_up_to}
use Rattle.rules.proofs.Demands.WorstRun.{worst_few, worst_recorded, worst_reaches}

module _ (b rows : List ℕ) where
  module _ (passed : check_of b (length rows) ≡ Ok tt) where
    rows_fit : length (events_of b) * 4 ≤ length rows
    unfolding event_checks check_for number_of
    rows_fit = omega (
      arith,
      length_from (record_event (event_body b)) 0 (count_at b 3),
      ltb-false (length rows) (count_at b 3 * 4) (clean_for (event_checks b (length rows)) (passed_events b (length rows) passed) ShortRows 0 (omega arith)),
    )

    replay_runs : (pr : Protocol) → replay_of pr b rows ≡ run_from pr (plan_in b) (events_of b) 0 fresh_of rows
    unfolding replay_of replay_as
    replay_runs pr = ap (λ v. replay_as pr v (plan_in b) (events_of b) rows) passed

-- the book of the list that reaches the bound
book_reaches : (pr : Protocol) (b : List ℕ) (room : ℕ) → check_of b room ≡ Ok tt → Obeys (plan_in b) → (t : ℕ) → t < (plan_in b).tasks → BookReaches pr b t
book_reaches pr b room passed O t h =
    let es : List Event = worst_case (plan_in b) t in
    let few : length es ≤ max_events = omega (arith, worst_few O t h) in
    let same : events_of (with_events b es) ≡ es = events_same b es (worst_recorded O t h) in
    record {
      book = with_events b es;
      plan = plan_same b es;
      bytes = bytes_with b es (worst_recorded O t h) room passed few;
      replay = λ rows fits.
          let fit : length es * 4 ≤ length rows = rw same at fits in
          let accepted : check_of (with_events b es) (length rows) ≡ Ok tt = accepted_with_lem b es (worst_recorded O t h) room passed few
          (length rows) fit in
          rw (replay_runs (with_events b es) rows accepted pr, same, plan_same b es) (worst_reaches O t h pr rows fit);
    }

-- every book, with every row space
pub replayed : (pr : Protocol) (b rows : List ℕ) → Promised pr b rows
replayed pr b rows = record {
  ran = λ z. let e = check_passes b (length rows) z in
      subst (λ (ran : Ran). RanUpTo pr (plan_in b) (events_of b) rows ran ran.state.head.accepted) (sym (replay_runs b rows e pr))
      (ran_up_to pr (passed_obeys b (length rows) e) (events_of b) rows (rows_fit b rows e));
  reached = λ z. let e = check_passes b (length rows) z in book_reaches pr b (length rows) e (passed_obeys b (length rows) e);
}

-- ---- both protocols

-- where nothing is refused the place is 0
no_place : (v : Verdict) → verdict_number v ≡ 0 → verdict_place v ≡ 0
unfolding verdict_number verdict_place
no_place (Ok _) e = refl
no_place (Err f) e = absurd (omega (arith, (numbered f.why).0, e))

-- a run stops at no event that is accepted
stops : (pr : Protocol) (p : Plan) (es : List Event) (rows : List ℕ) (ran : Ran) (a : ℕ) → RanUpTo pr p es rows ran a → a < length es
    → accepted_at p es a ≡ true → ⊥
unfolding tested_number
stops pr p es rows ran a R h q = omega (arith, R.passed.0 (R.number h ∙ ap tested_number (passed_at p es a q)))

module _ {p : Plan} (O : Obeys p) (es : List Event) (rows : List ℕ) (x y : Ran) (a b : ℕ)
    (X : RanUpTo First p es rows x a) (Y : RanUpTo Second p es rows y b) where
  -- so both stop at the same place
  same_stop : a ≡ b
  same_stop = ⊎_elim (λ (h : a < b). absurd (stops First p es rows x a X (omega (arith, Y.within)) (Y.accepted a h)))
      (λ (h : b ≤ a). ⊎_elim (λ (k : b < a). absurd (stops Second p es rows y b Y (omega (arith, X.within)) (X.accepted b k)))
      (λ (k : a ≤ b). omega arith) (lt_or_le b a)) (lt_or_le a b)

  same_number_lem : verdict_number x.verdict ≡ verdict_number y.verdict
  same_number_lem = ⊎_elim
      (λ (h : a < length es). X.number h ∙ ap (λ k. tested_number (eager_test p (eager_at p es k) (event_at es k))) same_stop
      ∙ sym (Y.number (omega (arith, same_stop))))
      (λ (h : length es ≤ a). X.passed.1 (omega (arith, X.within)) ∙ sym (Y.passed.1 (omega (arith, same_stop, X.within))))
      (lt_or_le a (length es))

  same_place : verdict_place x.verdict ≡ verdict_place y.verdict
  same_place = ⊎_elim
      (λ (h : a < length es). X.place h ∙ same_stop ∙ sym (Y.place (omega (arith, same_stop))))
      (λ (h : length es ≤ a). no_place x.verdict (X.passed.1 (omega (arith, X.within)))
      ∙ sym (no_place y.verdict (Y.passed.1 (omega (arith, same_stop, X.within)))))
      (lt_or_le a (length es))

  there : y.state ≡ lazy_at Second p es a
  there = Y.state ∙ ap (lazy_at Second p es) (sym same_stop)

  abbrev W : Between p es a
  W = between O es a

  compared_runs : Compared x y
  compared_runs = record {
    number = same_number_lem;
    place = same_place;
    figures = ap figures_of X.state ∙ W.figures ∙ ap figures_of (sym there);
    running = ap (λ (s : State). s.head.running) X.state ∙ W.running ∙ ap (λ (s : State). s.head.running) (sym there);
    fewer = omega (arith, W.reported, ap (λ (s : State). s.head.lazy) X.state, ap (λ (s : State). s.head.lazy) there);
    fair = X.fair;
  }

-- a book that is refused has the same replay by both
refused_alike : (v : Verdict) (p : Plan) (es : List Event) (rows : List ℕ) → 0 < verdict_number v
    → Compared (replay_as First v p es rows) (replay_as Second v p es rows)
unfolding replay_as verdict_number
refused_alike (Ok _) p es rows h = absurd (omega arith)
refused_alike (Err f) p es rows h =
    record { number = refl; place = refl; figures = refl; running = refl; fewer = omega arith; fair = omega arith }

pub both_replayed : (b rows : List ℕ) → BothReplayed b rows
unfolding replay_of
both_replayed b rows = ⊎_elim
    (λ z. let e = check_passes b (length rows) z in
    compared_runs (passed_obeys b (length rows) e) (events_of b) rows _ _ _ _ ((replayed First b rows).ran z) ((replayed Second b rows).ran z))
    (λ h. refused_alike (check_of b (length rows)) (plan_in b) (events_of b) rows h)
    (eq-zero-or-pos (verdict_number (check_of b (length rows))))
