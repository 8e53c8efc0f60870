-- The sections of the history: where they begin, that they are the open locks of the state, and that their units are the work done in them. Assumes nothing.
use Rattle.std.specs.Prelude.{if◌then◌else◌}
use mathlib.Core.Path.{◌≡◌, refl, sym, ◌∙◌, ap, subst}
use mathlib.Core.Logic.{⊎_elim}
use mathlib.Core.Bool.{Bool, true, false, ◌&&◌}
use mathlib.Core.List.{List}
use Prim.Native.Nat.{ℕ, zero, suc, ◌+◌, ◌≤◌, ◌<◌}
use native.Mathlib.Nat.{eq-or-lt_of_le, le_of_suc-le-suc}
use native.Mathlib.Omega.{arith}
use lib.Dec.{eqb}
use lib.ListN.{replicate}
use borrow.Author.Tests.{eqb-true}
use Rattle.rules.specs.Numbers.Capacity.{max_tasks}
use Rattle.rules.specs.Numbers.Place.{at, count}
use Rattle.rules.specs.Books.Event.{amount_of}
use Rattle.rules.specs.Books.Plan.{Obeys}
use Rattle.rules.specs.Schedulers.Figures.{Figures, holds}
use Rattle.rules.specs.Schedulers.FiguresAfter.{figures_after}
use Rattle.rules.specs.Demands.History.{event_at, eager_at, lazy_at, runner_at, accepted_at}
use Rattle.rules.specs.Demands.Job.{Does, takes_lock, gives_back, acts_at, taken_count, returned_count, HasOpen, Section, own_units, own_total}
use Rattle.rules.specs.Demands.Demand3.{SectionsAreOpen, SectionsCounted}
use Rattle.rules.specs.declared.plan.Plan.{Plan}
use Rattle.rules.specs.declared.protocol.Protocol.{Protocol}
use Rattle.rules.specs.declared.event.Event.{Event}
use Rattle.rules.specs.declared.event.Event.TheVariants.{Release, Acquire, Unlock, Work, Finish, Tick}
use Rattle.rules.proofs.Numbers.Choice.{if_false, by_test, untrue, not_so, and_true, at_or, lt_or_le}
use Rattle.rules.proofs.Numbers.Place.{zero_past, after_none, after_more}
use Rattle.rules.proofs.Numbers.Row.{copies, copies_none, has_copies, copies_has}
use Rattle.rules.proofs.Schedulers.FiguresKept as SoundFigures
use Rattle.rules.proofs.Demands.EagerRuled.{stage, runner_out, ruled_at}
use Rattle.rules.proofs.Demands.Follow.{same_figures}
use Rattle.rules.proofs.Demands.History.{each, room_at, allowed_at, allowed_for, next}
use Rattle.rules.proofs.Demands.OneEvent.{in_row, row_counts, units_one}

-- a count goes up by one where its test holds
count_one : (b : Bool) (n : ℕ) → (if b then n + 1 else n) ≡ n + (if b then 1 else 0)
count_one true n = refl
count_one false n = omega arith

-- an event that takes a lock is its acquire
take_of : (l : ℕ) (e : Event) → takes_lock l e ≡ true → e ≡ Acquire l
unfolding takes_lock
take_of l (Release t) h = untrue (sym h)
take_of l (Acquire m) h = ap Acquire (eqb-true m l h)
take_of l (Unlock m) h = untrue (sym h)
take_of l (Work a) h = untrue (sym h)
take_of l Finish h = untrue (sym h)
take_of l Tick h = untrue (sym h)

module _ {p : Plan} (O : Obeys p) (es : List Event) where
  abbrev taken : ℕ → ℕ → ℕ → ℕ
  taken x l k = taken_count p es x l k

  abbrev returned : ℕ → ℕ → ℕ → ℕ
  returned x l k = returned_count p es x l k

  abbrev takes : ℕ → ℕ → ℕ → Bool
  takes x l k = acts_at p es x k && takes_lock l (event_at es k)

  abbrev gives : ℕ → ℕ → ℕ → Bool
  gives x l k = acts_at p es x k && gives_back l (event_at es k)

  -- the takes in a row are those that were not given back
  row_next : (k x l : ℕ) → in_row (eager_at p es (suc k)) x l + (if gives x l k then 1 else 0) ≡ in_row (eager_at p es k) x l + (if takes x l k then 1 else 0)
  unfolding acts_at
  row_next k x l = each p es (λ f. in_row f x l + (if gives x l k then 1 else 0) ≡ in_row (eager_at p es k) x l + (if takes x l k then 1 else 0)) k
      (λ a. rw a (row_counts O (ruled_at O es k) (room_at p es k a) (event_at es k) (allowed_at p es k a) x l))
      (λ a. rw a)

  row_counted : (k x l : ℕ) → in_row (eager_at p es k) x l + returned x l k ≡ taken x l k
  unfolding eager_at taken_count returned_count count
  row_counted zero x l =
      ap (λ d. copies (at (replicate max_tasks 0) x) d l + 0) (zero_past max_tasks x) ∙ ap (λ n. n + 0) (copies_none (at (replicate max_tasks 0) x) l)
  row_counted (suc k) x l =
      omega (arith, row_counted k x l, row_next k x l, count_one (gives x l k) (returned x l k), count_one (takes x l k) (taken x l k))

  -- so a lock is open in the state exactly where it is in the history
  pub open_now : (k x l : ℕ) → holds (eager_at p es k) x l ≡ true → HasOpen p es x l k
  unfolding holds
  open_now k x l h = omega (arith, row_counted k x l, has_copies (at (eager_at p es k).takes x) (at (eager_at p es k).depth x) l h)

  now_open : (k x l : ℕ) → HasOpen p es x l k → holds (eager_at p es k) x l ≡ true
  unfolding holds
  now_open k x l h = copies_has (at (eager_at p es k).takes x) (at (eager_at p es k).depth x) l (omega (arith, row_counted k x l))

  -- where there is one take more than before, there was an acquire
  took : (k x l : ℕ) → taken x l k < taken x l (suc k) → Does p es k x (Acquire l)
  unfolding taken_count count acts_at
  took k x l h =
      by_test (takes x l k)
      (λ e. let (a, b) = and_true (accepted_at p es k && eqb (runner_at p es k) x) (takes_lock l (event_at es k)) e in
      let (c, d) = and_true (accepted_at p es k) (eqb (runner_at p es k) x) a in
      record { does = record { event = take_of l (event_at es k) b; accepted = c }; runs = eqb-true (runner_at p es k) x d })
      (λ e. absurd (omega (arith, if_false (takes x l k) (taken x l k + 1) (taken x l k) e)))

  -- an open lock is that of a section that goes on
  pub found : (k x l : ℕ) → HasOpen p es x l k → (a : ℕ) × Section p es x l a k
  unfolding taken_count returned_count count
  found zero x l h = absurd (omega arith)
  found (suc k) x l h = ⊎_elim
      (λ o. let (a, S) = found k x l o in (
        a,
        record {
          begun = S.begun;
          closed = S.closed;
          since = omega (arith, S.since);
          still = λ j g q. ⊎_elim (λ e. subst (HasOpen p es x l) (sym e) h) (λ s. S.still j g (omega arith)) (eq-or-lt_of_le q);
        },
      ))
      (λ o. (
        k,
        record {
          begun = took k x l (omega (arith, count_one (gives x l k) (returned x l k)));
          closed = λ q. omega arith;
          since = omega arith;
          still = λ j g q. let e : suc k ≡ j = omega arith in subst (HasOpen p es x l) e h;
        },
      ))
      (lt_or_le (returned x l k) (taken x l k))

  -- which has one beginning: where it goes on, none begins
  one_section_on : (k x l a b : ℕ) → Section p es x l a k → Section p es x l b k → a ≡ b
  one_section_on k x l a b S T = ⊎_elim
      (λ (h : a < b). absurd (T.closed (S.still b h (omega (arith, T.since)))))
      (λ (h : b ≤ a). ⊎_elim (λ (e : b ≡ a). sym e) (λ (g : b < a). absurd (S.closed (T.still a g (omega (arith, S.since))))) (eq-or-lt_of_le h))
      (lt_or_le a b)

  pub sections_are_open : SectionsAreOpen p es
  sections_are_open = record {
    taken = λ k x l. (open_now k x l, now_open k x l);
    section = λ k x l. (λ h. found k x l (open_now k x l h), λ (a, S). now_open k x l (S.still k S.since (omega arith)));
    one = one_section_on;
  }

  -- ---- units

  -- nobody has a lock open where a section of it begins, so it has no units there, and none after the take
  begins : (k x l : ℕ) → Does p es k x (Acquire l) → (HasOpen p es x l k → ⊥) → at (eager_at p es (suc k)).units l ≡ 0
  unfolding figures_after
  begins k x l D n = rw (next p es D.does) ((ruled_at O es k).figured.closed l
      (λ y. not_so (holds (eager_at p es k) y l) (at_or (λ y. holds (eager_at p es k) y l ≡ true → ⊥) (runner_at p es k)
      (λ h. n (open_now k x l (subst (λ y. holds (eager_at p es k) y l ≡ true) D.runs h)))
      (λ y m h. SoundFigures.only (stage O (ruled_at O es k) (room_at p es k D.does.accepted))
      (runner_out O (ruled_at O es k) (allowed_for p es D.does).runs) (allowed_for p es D.does) y m h) y)))

  -- what task x works at place k, where the event is accepted, and where it is not
  own_accepted : (k x : ℕ) → accepted_at p es k ≡ true → own_units p es x k ≡ (if eqb (runner_at p es k) x then amount_of (event_at es k) else 0)
  unfolding own_units acts_at
  own_accepted k x a = rw a

  own_refused : (k x : ℕ) → accepted_at p es k ≡ false → own_units p es x k ≡ 0
  unfolding own_units acts_at
  own_refused k x a = rw a

  section_units : (k x l a : ℕ) → Section p es x l a k → at (eager_at p es k).units l ≡ own_total p es x a k
  unfolding own_total
  section_units zero x l a S = absurd (omega (arith, S.since))
  section_units (suc k) x l a S = ⊎_elim
      (λ e. subst (λ k. at (eager_at p es (suc k)).units l ≡ own_total p es x a (suc k)) e
      (begins a x l S.begun S.closed ∙ sym (after_none (own_units p es x) a (suc a) (omega arith))))
      (λ g. let u : at (eager_at p es k).units l ≡ own_total p es x a k =
      section_units k x l a (record { begun = S.begun; closed = S.closed; since = g; still = λ j b d. S.still j b (omega arith) }) in
      let was : holds (eager_at p es k) x l ≡ true = now_open k x l (S.still k g (omega arith)) in
      rw (after_more (own_units p es x) a k g) (each p es (λ f. holds f x l ≡ true → at f.units l ≡ own_total p es x a k + own_units p es x k) k
      (λ b is. units_one O (ruled_at O es k) (room_at p es k b) (event_at es k) (allowed_at p es k b) x l was is
      ∙ ap (λ v. v + (if eqb (runner_at p es k) x then amount_of (event_at es k) else 0)) u ∙ ap (λ v. own_total p es x a k + v) (sym (own_accepted k x b)))
      (λ b is. omega (arith, u, own_refused k x b))
      (now_open (suc k) x l (S.still (suc k) (omega arith) (omega arith)))))
      (eq-or-lt_of_le (le_of_suc-le-suc S.since))

  pub sections_counted : (pr : Protocol) → SectionsCounted pr p es
  sections_counted pr = record {
    units = λ k x l a S. units_same k l ∙ section_units k x l a S;
    within = λ k x l a S. omega (arith, section_units k x l a S, (ruled_at O es k).figured.limits l);
    none = λ k l n. units_same k l ∙ (ruled_at O es k).figured.closed l (λ x. not_so (holds (eager_at p es k) x l) (λ h. n x (open_now k x l h)));
  }
    where
      units_same : (k l : ℕ) → at (lazy_at pr p es k).units l ≡ at (eager_at p es k).units l
      units_same k l = ap (λ (f : Figures). at f.units l) (same_figures pr O es k)
