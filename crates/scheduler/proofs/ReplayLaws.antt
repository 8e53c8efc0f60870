-- A book that passes the check, and its replay. Assumes nothing.
use Rattle.std.specs.Prelude.{Ok, Err}
use Rattle.rules.specs.Numbers.Verdict.{Verdict}
use mathlib.Core.Path.{◌≡◌, refl, sym, ◌∙◌, ap}
use mathlib.Core.List.{List}
use Prim.Native.Nat.{ℕ, ◌-◌, ◌*◌, ◌/◌, ◌≤◌}
use native.Mathlib.Omega.{arith}
use lib.ListN.{length, take, drop, length-drop}
use lib.Seq.{take_all}
use Rattle.rules.specs.Numbers.Place.{from}
use Rattle.rules.specs.Soundness.Sound.{SoundAndSized}
use Rattle.rules.specs.Books.Book.{count_at, body_at, event_body, record_event, events_of, plan_in, check_of, Checked, passed_check, checked_as, checked_of, checked_with}
use Rattle.rules.specs.Schedulers.State.{fresh_of}
use Rattle.rules.specs.Replays.Run.{run_from}
use Rattle.rules.specs.Replays.Replay.{replay_as, replay_of, ran_as}
use Rattle.rules.specs.declared.plan.Plan.{Plan}
use Rattle.rules.specs.declared.protocol.Protocol.{Protocol}
use Rattle.rules.specs.declared.state.State.{State}
use Rattle.rules.specs.declared.event.Event.TheVariants.{Tick}
use Rattle.rules.specs.declared.answer.Fault.{Fault}
use Rattle.rules.specs.declared.answer.Opened.{Opened}
use Rattle.rules.specs.declared.answer.Replayed.{Replayed}
use Rattle.rules.proofs.Numbers.Place.{length_from, get_d_tabulate, from_same}
use Rattle.rules.proofs.Books.Passes.{verdict_held, passed_obeys}
use Rattle.rules.proofs.Soundness.SoundKept.{fresh_sound}
use Rattle.book.proofs.Accepted.{ends, records, rows_fit}
use Rattle.book.proofs.EventWalk.{walks}
use Rattle.rules.specs.Books.Load.{blank_plan}
use Rattle.scheduler.specs.Going.{event_in}

module _ (pr : Protocol) (b : List ℕ) (room : ℕ) where
  module _ (c : Checked) (reads : c ≡ checked_of b room) where
    -- the verdict of the check is the definition's
    check_said : (v : Verdict) → c.verdict ≡ v → check_of b room ≡ v
    check_said v e = sym (verdict_held (check_of b room) b) ∙ ap (λ (k : Checked). k.verdict) (sym reads) ∙ e

    module _ (passed : c.verdict ≡ Ok tt) where
      said : check_of b room ≡ Ok tt
      said = check_said (Ok tt) passed

      taken : c ≡ checked_as (Ok tt) b
      taken = reads ∙ ap (λ v. checked_as v b) said

      plan_is : c.plan ≡ plan_in b
      unfolding checked_as
      plan_is = ap (λ (k : Checked). k.plan) taken

      events_is : c.events ≡ body_at b 3
      unfolding checked_as
      events_is = ap (λ (k : Checked). k.events) taken

      within : c.events ≤ length b
      within = rw events_is (omega (arith, ends b room said))

      sound_so : SoundAndSized pr c.plan fresh_of
      sound_so = fresh_sound pr (rw plan_is (passed_obeys b room said))

      module _ (body : List ℕ) (part : body ≡ take (length b - c.events) (drop c.events b)) where
        whole_part : body ≡ event_body b
        whole_part = part ∙ take_all (length b - c.events) (drop c.events b) (omega (arith, length-drop c.events b)) ∙ ap (λ i. drop i b) events_is

        counted : length body / 4 ≡ count_at b 3
        counted = ap (λ (xs : List ℕ). length xs / 4) whole_part ∙ records b room said

        rows_so : length body / 4 * 4 ≤ room
        rows_so = rw counted (rows_fit b room said)

        -- its events are the book's
        body_events : from (event_in body) 0 (length body / 4) ≡ events_of b
        body_events = rw (counted, whole_part) (from_same (event_in (event_body b)) (record_event (event_body b)) 0 (count_at b 3) (λ k _ h.
            (walks b room said k).event (omega (arith, length_from (record_event (event_body b)) 0 (count_at b 3)))
            ∙ get_d_tabulate (record_event (event_body b)) (count_at b 3) k Tick (omega arith)))

        book_runs : (rows out : List ℕ) (r : Replayed) → length rows ≡ room
            → ran_as r out ≡ run_from pr c.plan (from (event_in body) 0 (length body / 4)) 0 fresh_of rows → r.plan ≡ c.plan
            → (ran_as r out ≡ replay_of pr b rows) × (r.plan ≡ (checked_of b (length rows)).plan)
        unfolding replay_of replay_as
        book_runs rows out r z e h = (
          e ∙ rw (body_events, plan_is, z) (ap (λ v. replay_as pr v (plan_in b) (events_of b) rows) (sym said)),
          h
              ∙ rw z (ap (λ (k : Checked). k.plan) reads),
        )

-- the same with the rows' own room, by what the check answers
module _ (pr : Protocol) (b rows : List ℕ) where
  -- a refused book is left as it is
  pub refused_ran : (f : Fault) (p : Plan) (s : State) → checked_with (Err f) ≡ checked_of b (length rows) → p ≡ blank_plan → s ≡ fresh_of
      → (record { verdict = Err f; state = s; rows = rows } ≡ replay_of pr b rows) × (p ≡ (checked_of b (length rows)).plan)
  unfolding replay_of replay_as checked_with
  refused_ran f p s reads h e =
      (rw (e, check_said pr b (length rows) (checked_with (Err f)) reads (Err f) refl) refl, h ∙ ap (λ (k : Checked). k.plan) reads)

  module _ (o : Opened) (reads : checked_with (Ok o) ≡ checked_of b (length rows)) where
    abbrev c : Checked
    c = passed_check o.plan o.events

    pub body_within : o.events ≤ length b
    unfolding checked_with
    body_within = within pr b (length rows) c reads refl

    pub plan_sound : SoundAndSized pr o.plan fresh_of
    unfolding checked_with
    plan_sound = sound_so pr b (length rows) c reads refl

    module _ (body : List ℕ) (part : body ≡ take (length b - o.events) (drop o.events b)) where
      pub body_rows : length body / 4 * 4 ≤ length rows
      unfolding checked_with
      body_rows = rows_so pr b (length rows) c reads refl body part

      pub passed_ran : (out : List ℕ) (r : Replayed) → ran_as r out ≡ run_from pr o.plan (from (event_in body) 0 (length body / 4)) 0 fresh_of rows
          → r.plan ≡ o.plan → (ran_as r out ≡ replay_of pr b rows) × (r.plan ≡ (checked_of b (length rows)).plan)
      unfolding checked_with
      passed_ran out r h q = book_runs pr b (length rows) c reads refl body part rows out r refl h q
