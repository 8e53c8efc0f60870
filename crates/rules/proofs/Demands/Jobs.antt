-- The work of lower tasks in a job, by places in the history. Assumes nothing.
use Rattle.std.specs.Prelude.{if◌then◌else◌}
use mathlib.Core.Path.{◌≡◌, refl, sym, ◌∙◌, ap, subst}
use mathlib.Core.Logic.{⊎_elim, ◌↔◌}
use mathlib.Core.Bool.{true, ◌&&◌}
use mathlib.Core.List.{List}
use Prim.Native.Nat.{ℕ, zero, suc, ◌+◌, ◌≤◌, ◌<◌}
use native.Mathlib.Nat.{eq-or-lt_of_le, le_of_suc-le-suc}
use native.Mathlib.Omega.{arith}
use lib.Dec.{ltb}
use borrow.Author.Tests.{ltb-true, lt-ltb}
use Rattle.rules.specs.Numbers.Capacity.{max_tasks}
use Rattle.rules.specs.Numbers.Place.{at}
use Rattle.rules.specs.Books.Event.{kind_of, amount_of}
use Rattle.rules.specs.Books.Plan.{Obeys}
use Rattle.rules.specs.Schedulers.Figures.{Figures, holds, priority_of}
use Rattle.rules.specs.Schedulers.FiguresAfter.{figures_after}
use Rattle.rules.specs.Demands.History.{event_at, eager_at, lazy_at, runner_at, accepted_at, delay_next, delay_count}
use Rattle.rules.specs.Demands.Job.{Accepted, Does, HasOpen, Job, LowerWork, lower_units, lower_total}
use Rattle.rules.specs.Demands.Demand3.{OneSection, Demand3}
use Rattle.rules.specs.declared.plan.Plan.{Plan}
use Rattle.rules.specs.declared.protocol.Protocol.{Protocol}
use Rattle.rules.specs.declared.event.Event.{Event}
use Rattle.rules.specs.declared.event.Event.TheVariants.{Release, Acquire, Finish}
use Rattle.rules.proofs.Numbers.Choice.{if_true, if_false, by_test, and_true, true_and, lt_or_le}
use Rattle.rules.proofs.Numbers.Place.{zero_past, cleared, after_none, after_more}
use Rattle.rules.proofs.Books.Obeyed.{few_tasks}
use Rattle.rules.proofs.Schedulers.FiguresKept as SoundFigures
use Rattle.rules.proofs.Schedulers.FiguresKept.{inside}
use Rattle.rules.proofs.Schedulers.Rules.{base_priority}
use Rattle.rules.proofs.Demands.Urgency as Urgency
use Rattle.rules.proofs.Demands.Urgency.{Best}
use Rattle.rules.proofs.Demands.EagerRuled.{standing, good, stage, runs_best, ruled_at}
use Rattle.rules.proofs.Demands.Follow.{same_figures}
use Rattle.rules.proofs.Demands.Late.{Late, lock_by, blocks_open, late_step, late_fresh}
use Rattle.rules.proofs.Demands.History.{each, room_at, allowed_at, allowed_for, next}
use Rattle.rules.proofs.Demands.Sections.{open_now, found}
use Rattle.rules.proofs.Demands.OneEvent.{other_kind, works, stays_out, was_urgent, delay_one, delay_adds, stays_off}

module _ {p : Plan} (O : Obeys p) (es : List Event) where
  pub late_at : (k : ℕ) → Late p (eager_at p es k)
  unfolding eager_at
  late_at zero = late_fresh p
  late_at (suc k) = late_step O (ruled_at O es k) (late_at k) (event_at es k)

  -- the figures of both schedulers are the same
  pub delays_same : (pr : Protocol) (k t : ℕ) → at (lazy_at pr p es k).delay t ≡ at (eager_at p es k).delay t
  delays_same pr k t = ap (λ (f : Figures). at f.delay t) (same_figures pr O es k)

  -- ---- jobs

  narrow : {t i k : ℕ} → Job p es t i k → (j : ℕ) → i < j → j ≤ k → Job p es t i j
  narrow J j a b = record { begun = J.begun; since = a; still = λ m q s. J.still m q (omega arith) }

  -- throughout a job its task is released
  job_out : (t i k : ℕ) → Job p es t i k → 0 < at (eager_at p es k).released t
  job_out t i zero J = absurd (omega (arith, J.since))
  job_out t i (suc k) J = ⊎_elim
      (λ e. subst (λ k. 0 < at (eager_at p es (suc k)).released t) e
      (rw (next p es J.begun) (omega (
        arith,
        SoundFigures.release_number (stage O (ruled_at O es i) (room_at p es i J.begun.accepted))
            (allowed_for p es J.begun) (runner_at p es i),
      ))))
      (λ g. let o : 0 < at (eager_at p es k).released t = job_out t i k (narrow J k g (omega arith)) in
      each p es (λ f. 0 < at f.released t) k
      (λ a. stays_out O (ruled_at O es k) (room_at p es k a) (event_at es k) (allowed_at p es k a) t o
      (λ q w. J.still k g (omega arith) (record { does = record { event = q; accepted = a }; runs = w }))) (λ _. o))
      (eq-or-lt_of_le (le_of_suc-le-suc J.since))

  -- ---- who holds up whom

  -- at place k task x is urgent enough to hold up t
  abbrev Urgent : ℕ → ℕ → ℕ → Type 0
  Urgent t x k = at p.base t ≤ priority_of p (eager_at p es k) x

  -- and this is the lock by which it does
  abbrev by : ℕ → ℕ → ℕ → ℕ
  by t x k = lock_by p (eager_at p es k) x t

  module _ (t x : ℕ) (lo : at p.base x < at p.base t) where
    locked : (k : ℕ) → Urgent t x k → (holds (eager_at p es k) x (by t x k) ≡ true) × (at p.base t ≤ at p.ceiling (by t x k))
    locked k h = blocks_open O (ruled_at O es k) t x (record { lower = lo; urgent = h })

    -- who holds up t at a place k of its job did so at each place j of it before k, by the same lock
    back : (i k : ℕ) → Job p es t i k → Urgent t x k → (j : ℕ) → i < j → j ≤ k → Urgent t x j × (by t x k ≡ by t x j)
    back i zero J h j a b = absurd (omega (arith, J.since))
    back i (suc k) J h j a b = ⊎_elim
        (λ e. subst (λ j. Urgent t x j × (by t x (suc k) ≡ by t x j)) (sym e) (h, refl))
        (λ g. let K : Job p es t i k = narrow J k (omega arith) (omega arith) in
        let (h', q) = each p es (λ f. at p.base t ≤ priority_of p f x → Urgent t x k × (lock_by p f x t ≡ by t x k)) k
        (λ a. was_urgent O (ruled_at O es k) (room_at p es k a) (event_at es k) (allowed_at p es k a) t x (job_out t i k K)) (λ _ h. (h, refl)) h in
        let (u, v) = back i k K h' j a (omega arith) in
        (u, q ∙ v))
        (eq-or-lt_of_le b)

    -- and has had it open since
    open_since : (i k : ℕ) → Job p es t i k → Urgent t x k → (j : ℕ) → i < j → j ≤ k → HasOpen p es x (by t x (suc i)) j
    open_since i k J h j a b =
        let (u, v) = back i k J h j a b in
        let (_, w) = back i k J h (suc i) (omega arith) (omega arith) in
        open_now O es j x (by t x (suc i)) (subst (λ l. holds (eager_at p es j) x l ≡ true) (sym v ∙ w) (locked j u).0)

  -- a lower task that works in a job holds it up
  holds_up : {t i k x u : ℕ} → LowerWork p es t i k x u → Urgent t x k
  holds_up {t} {i} {k} {x} W =
      omega (
        arith,
        base_priority p (eager_at p es k) t,
        rw W.works.runs at
            ((runs_best O (ruled_at O es k) (allowed_for p es W.works.does).runs).top t (job_out t i k W.job)),
      )

  -- ---- the job of t that was released at place i

  module _ (t i : ℕ) (B : Accepted p es i (Release t)) where
    -- whoever works in the job at lower base holds it up since the release
    since : {k x u : ℕ} → LowerWork p es t i k x u → Urgent t x (suc i)
    since {k} {x} W = (back t x W.lower i k W.job (holds_up W) (suc i) (omega arith) W.job.since).0

    one_section_lem : (k x u : ℕ) → LowerWork p es t i k x u → OneSection p es t i
    unfolding kind_of
    one_section_lem k x u M =
        let (o, v) = locked t x M.lower (suc i) (since M) in
        let (a, S) = found O es (suc i) x (by t x (suc i)) (open_now O es (suc i) x (by t x (suc i)) o) in
        let ahead : a < i = ⊎_elim (λ q. other_kind (Acquire (by t x (suc i))) (Release t) (omega arith)
        (sym S.begun.does.event ∙ ap (event_at es) q ∙ B.event)) (λ q. q) (eq-or-lt_of_le (le_of_suc-le-suc S.since)) in
        record {
          task = x;
          lock = by t x (suc i);
          place = a;
          earlier = ahead;
          high = v;
          all = λ k y u W.
              let q : y ≡ x = Urgency.only (good (ruled_at O es (suc i))) t y x W.lower M.lower (since W) (since M) in (
                q,
                record {
                  begun = S.begun;
                  closed = S.closed;
                  since = omega (arith, ahead, W.job.since);
                  still = λ j b d. ⊎_elim (λ s. S.still j b (omega arith))
                      (λ s. open_since t x M.lower i k W.job (subst (λ y. Urgent t y k) q (holds_up W)) j s d) (lt_or_le j (suc i));
                },
              );
        }

    -- nobody holds up t where it runs
    none_after_lem : (j k x u : ℕ) → Job p es t i j → runner_at p es j ≡ t → j ≤ k → LowerWork p es t i k x u → ⊥
    none_after_lem j k x u J r h W =
        let b : Best (standing p (eager_at p es j)) t = rw r at (runs_best O (ruled_at O es j)
        (λ z. omega (arith, few_tasks O, inside (ruled_at O es j).figured t (job_out t i j J)))) in
        omega (arith, Urgency.undisturbed (good (ruled_at O es j)) t x b W.lower, (back t x W.lower i k W.job (holds_up W) j J.since h).0)

    -- ---- units

    units : (k n : ℕ) → Job p es t i k → 0 < n → (lower_units p es t k ≡ n) ↔ ((x : ℕ) × LowerWork p es t i k x n)
    unfolding lower_units amount_of
    units k n J h = (
      λ e. by_test (accepted_at p es k && ltb (at p.base (runner_at p es k)) (at p.base t))
          (λ q. let (u, v) = and_true (accepted_at p es k) (ltb (at p.base (runner_at p es k)) (at p.base t)) q in (
            runner_at p es k,
            record {
              job = J;
              works = record {
                does = record { event = works (event_at es k) n h (sym (if_true _ (amount_of (event_at es k)) 0 q) ∙ e); accepted = u };
                runs = refl;
              };
              lower = ltb-true _ _ v;
            },
          ))
          (λ q. absurd (omega (arith, e, if_false _ (amount_of (event_at es k)) 0 q))),
      λ (x, W). if_true _ (amount_of (event_at es k)) 0 (true_and (accepted_at p es k) _ W.works.does.accepted (rw W.works.runs (lt-ltb _ _ W.lower)))
          ∙ ap amount_of W.works.does.event,
    )

    begins : at (eager_at p es (suc i)).delay t ≡ 0
    begins = rw (next p es B) (SoundFigures.release_delay (stage O (ruled_at O es i) (room_at p es i B.accepted)) (allowed_for p es B) (runner_at p es i))

    counted : (k : ℕ) → Job p es t i k → at (eager_at p es k).delay t ≡ lower_total p es t i k
    unfolding lower_units lower_total
    counted zero J = absurd (omega (arith, J.since))
    counted (suc k) J = ⊎_elim
        (λ e. subst (λ k. at (eager_at p es (suc k)).delay t ≡ lower_total p es t i (suc k)) e (begins ∙ sym (after_none (lower_units p es t) i (suc i) (omega arith))))
        (λ g. let K : Job p es t i k = narrow J k g (omega arith) in
        rw (after_more (lower_units p es t) i k g) (each p es (λ f. at f.delay t ≡ lower_total p es t i k + lower_units p es t k) k
        (λ a. delay_one O (ruled_at O es k) (room_at p es k a) (late_at k) (event_at es k) (allowed_at p es k a) t
        ∙ ap (delay_next p (eager_at p es k) (event_at es k) t) (counted k K)
        ∙ delay_adds O (ruled_at O es k) (room_at p es k a) (event_at es k) (allowed_at p es k a) t (lower_total p es t i k) (job_out t i k K)
        ∙ ap (λ v. lower_total p es t i k + v) (sym (lower_accepted k a)))
        (λ n. counted k K ∙ omega (arith, if_false _ (amount_of (event_at es k)) 0 (ap (λ b. b && ltb (at p.base (runner_at p es k)) (at p.base t)) n)))))
        (eq-or-lt_of_le (le_of_suc-le-suc J.since))
      where
        lower_accepted : (k : ℕ) → accepted_at p es k ≡ true → lower_units p es t k
            ≡ (if ltb (at p.base (runner_at p es k)) (at p.base t) then amount_of (event_at es k) else 0)
        lower_accepted k a = ap (λ b. if b && ltb (at p.base (runner_at p es k)) (at p.base t) then amount_of (event_at es k) else 0) a

    ends : (k : ℕ) → Does p es k t Finish → (at (eager_at p es (suc k)).released t ≡ 0) × (at (eager_at p es (suc k)).delay t ≡ at (eager_at p es k).delay t)
    unfolding figures_after
    ends k D = rw (next p es D.does, D.runs) (cleared (eager_at p es k).released t, refl)

    -- after the job's finish
    rests : (k : ℕ) → Job p es t i k → Does p es k t Finish → (n : ℕ) → k < n → ((j : ℕ) → k < j → j < n → Accepted p es j (Release t) → ⊥)
        → (at (eager_at p es n).released t ≡ 0) × (at (eager_at p es n).delay t ≡ lower_total p es t i k)
    rests k J D zero h f = absurd (omega arith)
    rests k J D (suc n) h f = ⊎_elim
        (λ e. subst (λ n. (at (eager_at p es (suc n)).released t ≡ 0) × (at (eager_at p es (suc n)).delay t ≡ lower_total p es t i k)) e
        ((ends k D).0, (ends k D).1 ∙ counted k J))
        (λ g. let (o, d) = rests k J D n g (λ j q s. f j q (omega arith)) in
        each p es (λ f. (at f.released t ≡ 0) × (at f.delay t ≡ lower_total p es t i k)) n
        (λ a. let (u, v) = stays_off O (ruled_at O es n) (room_at p es n a) (event_at es n) (allowed_at p es n a) t o
        (λ q. f n g (omega arith) (record { event = q; accepted = a })) in
        (u, delay_one O (ruled_at O es n) (room_at p es n a) (late_at n) (event_at es n) (allowed_at p es n a) t ∙ v (at (eager_at p es n).delay t) ∙ d))
        (λ _. (o, d)))
        (eq-or-lt_of_le (le_of_suc-le-suc h))

  -- ---- the history's count of a delay

  delay_history : (k t : ℕ) → at (eager_at p es k).delay t ≡ delay_count p es t k
  unfolding eager_at delay_count
  delay_history zero t = zero_past max_tasks t
  delay_history (suc k) t = each p es (λ f. at f.delay t ≡ (if accepted_at p es k then delay_next p (eager_at p es k) (event_at es k) t
      (delay_count p es t k) else delay_count p es t k)) k
      (λ a. delay_one O (ruled_at O es k) (room_at p es k a) (late_at k) (event_at es k) (allowed_at p es k a) t
      ∙ ap (delay_next p (eager_at p es k) (event_at es k) t) (delay_history k t) ∙ sym (if_true _ _ (delay_count p es t k) a))
      (λ a. delay_history k t ∙ sym (if_false _ (delay_next p (eager_at p es k) (event_at es k) t (delay_count p es t k)) _ a))

  -- the figure in the state is that count
  pub delay_counted : (pr : Protocol) (k t : ℕ) → at (lazy_at pr p es k).delay t ≡ delay_count p es t k
  delay_counted pr k t = delays_same pr k t ∙ delay_history k t

-- every job of every list of events from a fresh start
pub demand3 : (pr : Protocol) {p : Plan} → Obeys p → (es : List Event) (t i : ℕ) → Accepted p es i (Release t) → Demand3 pr p es t i
demand3 pr {p} O es t i B = record {
  one_section = one_section_lem O es t i B;
  none_after = none_after_lem O es t i B;
  units = units O es t i B;
  bounded = λ k J. omega (arith, counted O es t i B k J, (late_at O es k).bounded t);
  counted = λ k J. delays_same O es pr k t ∙ counted O es t i B k J;
  reported = λ k n J D h f. delays_same O es pr n t ∙ (rests O es t i B k J D n h f).1;
}
