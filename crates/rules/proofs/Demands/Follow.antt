-- The lazy scheduler, by either protocol, follows the eager one: the same figures, and the same running task. All that this needs of the second word is that it
-- is at least every other released task's priority. Assumes nothing.
use Rattle.std.specs.Prelude.{Ok, Err}
use Rattle.rules.specs.Numbers.Verdict.{Tested}
use mathlib.Core.Path.{◌≡◌, refl, sym, ◌∙◌, ap, ap₂, subst, fun_ext}
use mathlib.Core.Logic.{◌≢◌, ⊎_elim}
use mathlib.Core.Bool.{Bool, true, false}
use mathlib.Core.List.{List}
use Prim.Native.Nat.{ℕ, zero, suc, ◌≤◌, ◌<◌}
use native.Mathlib.Numerals.{add-one}
use native.Mathlib.Nat.{eq-zero-or-pos}
use native.Mathlib.Omega.{arith}
use lib.Dec.{ltb}
use borrow.Author.Tests.{ltb-false}
use Rattle.rules.specs.Numbers.Capacity.{max_tasks, max_accepted, nobody}
use Rattle.rules.specs.Numbers.Place.{at}
use Rattle.rules.specs.Books.Plan.{Obeys}
use Rattle.rules.specs.Schedulers.Figures.{Figures, figures_of, fresh_figures, rank_of}
use Rattle.rules.specs.Schedulers.Elect.{elected}
use Rattle.rules.specs.Schedulers.EventRefusals.{refusal_of}
use Rattle.rules.specs.Schedulers.FiguresAfter.{stays_open, figures_after}
use Rattle.rules.specs.Schedulers.Eager.{running_of, settle, eager_test, eager_step}
use Rattle.rules.specs.Schedulers.Protocol.{second_word}
use Rattle.rules.specs.Schedulers.Lazy.{Words, words_of, calls_for, entering, best_kept, back_of, runs_on, switched, stays, after_release}
use Rattle.rules.specs.Schedulers.Lazy.{after_acquire, restored, leaves, after_unlock, words_after, enters, lazy_call}
use Rattle.rules.specs.Soundness.Sound.{SoundWords, SoundAndSized}
use Rattle.rules.specs.Replays.Step.{after_of, answered, act_of, step_of}
use Rattle.rules.specs.Demands.History.{event_at, eager_at, lazy_at, runner_at}
use Rattle.rules.specs.Demands.Demand2.{Covers}
use Rattle.rules.specs.declared.plan.Plan.{Plan}
use Rattle.rules.specs.declared.protocol.Protocol.{Protocol}
use Rattle.rules.specs.declared.protocol.Protocol.TheVariants.{Second, First}
use Rattle.rules.specs.declared.state.State.{State}
use Rattle.rules.specs.declared.answer.Stepped.{Stepped}
use Rattle.rules.specs.declared.event.Event.{Event}
use Rattle.rules.specs.declared.event.Event.TheVariants.{Release, Acquire, Unlock, Work, Finish, Tick}
use Rattle.rules.proofs.Numbers.Choice.{if_true, if_false, by_test, either, untrue, at_or}
use Rattle.rules.proofs.Numbers.Place.{zero_past, greatest_all, greatest_least}
use Rattle.rules.proofs.Schedulers.Elect.{elected_none}
use Rattle.rules.proofs.Books.Obeyed.{few_tasks, base_some}
use Rattle.rules.proofs.Schedulers.Passed.{Releasable, Takeable, Givable, Finishable, passed_room, allowed}
use Rattle.rules.proofs.Schedulers.FiguresKept as SoundFigures
use Rattle.rules.proofs.Schedulers.FiguresKept.{Same, same_priority, same_rank}
use Rattle.rules.proofs.Schedulers.Maximum.{enters_same, calls_same}
use Rattle.rules.proofs.Schedulers.WordsKept as SoundWords
use Rattle.rules.proofs.Schedulers.Rules.{no_call, rank_out, rank_in, kept_own, kept_other, base_priority}
use Rattle.rules.proofs.Soundness.SoundKept.{scene, after_sound, step_act, fresh_sound}
use Rattle.rules.proofs.Demands.Urgency as Urgency
use Rattle.rules.proofs.Demands.Urgency.{Best}
use Rattle.rules.proofs.Demands.EagerRuled.{standing, same_alike, Ruled, good, stage, runs_best, some_runs, best_runs, ruled_kept, ruled_fresh}

-- a search over the same keys elects the same task
elected_same : (released key key' : ℕ → ℕ) (n : ℕ) → ((x : ℕ) → key x ≡ key' x) → elected released key n ≡ elected released key' n
elected_same released key key' n h = ap (λ k. elected released k n) (fun_ext h)

-- ---- the second word, event by event

-- an entry to the kernel sets it by the protocol's rule, and nothing else sets it
module _ (pr : Protocol) (p : Plan) (f : Figures) (released : List ℕ) (w : Words) where
  abbrev after : Event → Words
  after e = words_after pr p f released w e

  pub record Entered (v : Words) : Type 0 where
    pub next : v.next ≡ second_word pr v.user (best_kept v.kept p.tasks)

  switch_entered : (kept : List ℕ) (u : Words) → Entered (switched pr p.tasks released kept u)
  unfolding switched runs_on
  switch_entered kept u = record { next = refl }

  stay_entered : (kept : List ℕ) (u : Words) → Entered (stays pr p.tasks kept u)
  unfolding stays
  stay_entered kept u = record { next = refl }

  pub entered : (e : Event) → enters (lazy_call w e) e ≡ true → Entered (after e)
  unfolding words_after after_release after_unlock leaves enters lazy_call
  entered (Release t) h = either Entered (ltb (entering p.maximum w).user (at p.base t)) _ _ (switch_entered _ _) (stay_entered _ _)
  entered (Acquire l) h = untrue (sym h)
  entered (Unlock l) h = subst Entered (sym (if_true (calls_for (back_of w) w.next) _ (restored (stays_open f w.running l) l 0 w) h)) (switch_entered _ _)
  entered (Work a) h = untrue (sym h)
  entered Finish h = switch_entered _ _
  entered Tick h = stay_entered _ _

  -- elsewhere who runs stays too, and the user word is then no lower than the second word, if it was so before
  pub record Left (v : Words) : Type 0 where
    pub next : v.next ≡ w.next
    pub running : v.running ≡ w.running
    pub user : w.next ≤ w.user → w.next ≤ v.user

  pub left : (e : Event) → enters (lazy_call w e) e ≡ false → Left (after e)
  unfolding words_after after_acquire after_unlock restored enters lazy_call
  left (Release t) h = untrue h
  left (Acquire l) h = record { next = refl; running = refl; user = λ q. omega arith }
  left (Unlock l) h = subst Left (sym (if_false (calls_for (back_of w) w.next) _ _ h))
      (record { next = refl; running = refl; user = λ q. no_call (back_of w) w.next h })
  left (Work a) h = record { next = refl; running = refl; user = λ q. q }
  left Finish h = untrue h
  left Tick h = untrue h

-- what holds of the greatest kept priority and of the user word holds of what an entry leaves
entry_either : (P : ℕ → Type 0) (pr : Protocol) (user best : ℕ) → P user → P best → P (second_word pr user best)
unfolding second_word
entry_either P Second user best u b = b
entry_either P First user best u b = u

-- ---- one event

-- what holds of the lazy scheduler's state at every place of a list, along with the eager scheduler's figures there
pub record Follows (pr : Protocol) (p : Plan) (s : State) : Type 0 where
  pub sound : SoundAndSized pr p s
  pub ruled : Ruled p (figures_of s)
  pub running : s.head.running ≡ running_of p (figures_of s)
  -- the second word is at least every other released task's priority, and at most the user word
  pub covers : Covers p (figures_of s) s.head.running s.head.next.0
  pub at_most : s.head.next.0 ≤ s.head.user.0

module _ {pr : Protocol} {p : Plan} {s : State} (F : Follows pr p s) where
  abbrev f : Figures
  f = figures_of s

  abbrev w : Words
  w = words_of s

  abbrev r : ℕ
  r = s.head.running

  abbrev S : SoundAndSized pr p s
  S = F.sound

  abbrev R : Ruled p f
  R = F.ruled

  O : Obeys p
  O = S.sound.plan

  -- an entry to the kernel cuts nothing, nor does a call
  found : entering p.maximum w ≡ w
  found = enters_same O S.sound.figures S.sound.words

  found_back : (stays : Bool) (l : ℕ) → entering p.maximum (restored stays l 1 w) ≡ restored stays l 1 w
  found_back stays l = calls_same O S.sound.figures S.sound.words stays l 1

  -- both schedulers test an event alike
  pub same_test : (e : Event) → eager_test p f e ≡ refusal_of p f r e
  unfolding eager_test
  same_test e = ap (λ x. refusal_of p f x e) (sym F.running)

  -- somebody runs: the best task
  best : r ≢ nobody → Best (standing p f) r
  best n = rw F.running (runs_best O R (λ e. n (F.running ∙ e)))

  module _ (room : f.accepted < max_accepted) where
    who_release : {t : ℕ} (o : Releasable p f t) → Ruled p (figures_after p f r (Release t))
        → (after_of pr p s (Release t)).head.running ≡ running_of p (figures_after p f r (Release t))
    unfolding after_of words_after after_release stays switched runs_on running_of
    who_release {t} o R' = rw found (by_test (ltb w.user (at p.base t))
        (λ e. ap (λ (v : Words). v.running) (if_true (ltb w.user (at p.base t)) _ _ e)
        ∙ elected_same (at (figures_after p f r (Release t)).released) _ (rank_of p (figures_after p f r (Release t))) p.tasks
        (SoundWords.release_kept (scene S room) o))
        (λ e. ap (λ (v : Words). v.running) (if_false (ltb w.user (at p.base t)) _ _ e) ∙ best_runs O R' r (still e)))
      where
        some : ltb w.user (at p.base t) ≡ false → r ≢ nobody
        some e q = omega (arith, ltb-false w.user (at p.base t) e, SoundWords.nobody_user (scene S room) q, base_some O t o.known)

        still : ltb w.user (at p.base t) ≡ false → Best (standing p (figures_after p f r (Release t))) r
        still e = Urgency.newcomer (good R) t
            (λ x n. same_alike p (SoundWords.release_same (scene S room) o x n))
            r (SoundWords.r_t (scene S room) o) (best (some e))
            (SoundFigures.release_number (stage O R room) o r ∙ add-one f.accepted)
            (omega (
              arith,
              rank_out p (figures_after p f r (Release t)) t (omega (arith, SoundFigures.release_number (stage O R room) o r)),
              SoundWords.release_rank (scene S room) o,
              ltb-false w.user (at p.base t) e,
              SoundWords.user_priority (scene S room) (some e),
            ))

    who_acquire : {l : ℕ} (o : Takeable p f r l) → Ruled p (figures_after p f r (Acquire l))
        → (after_of pr p s (Acquire l)).head.running ≡ running_of p (figures_after p f r (Acquire l))
    unfolding after_of words_after after_acquire figures_after
    who_acquire {l} o R' = best_runs O R' r (Urgency.stay (good R) r (λ x n. same_alike p (SoundWords.take_same (scene S room) o.runs o x n))
        (best o.runs) refl
        (base_priority p (figures_after p f r (Acquire l)) r)
        (λ y n u. omega (arith, SoundWords.take_priority (scene S room) o.runs o, (best o.runs).top y u)))

    who_unlock : {l : ℕ} (o : Givable p f r l) → Ruled p (figures_after p f r (Unlock l))
        → (after_of pr p s (Unlock l)).head.running ≡ running_of p (figures_after p f r (Unlock l))
    unfolding after_of words_after after_unlock leaves restored switched runs_on running_of figures_after
    who_unlock {l} o R' = rw (found_back (stays_open f r l) l) (by_test (calls_for (back_of w) w.next)
        (λ e. ap (λ (v : Words). v.running) (if_true (calls_for (back_of w) w.next) _ _ e)
        ∙ elected_same (at f.released) _ (rank_of p (figures_after p f r (Unlock l))) p.tasks (SoundWords.give_kept (scene S room) o.runs o))
        (λ e. ap (λ (v : Words). v.running) (if_false (calls_for (back_of w) w.next) _ _ e)
        ∙ best_runs O R' r (Urgency.stay (good R) r (λ x n. same_alike p (SoundWords.give_same (scene S room) o.runs o x n)) (best o.runs) refl
        (base_priority p (figures_after p f r (Unlock l)) r)
        (λ y n u. omega (arith, SoundWords.give_priority (scene S room) o.runs o, F.covers y n u, no_call (back_of w) w.next e)))))

    who_finish : Finishable f r → (after_of pr p s Finish).head.running ≡ running_of p (figures_after p f r Finish)
    unfolding after_of words_after switched runs_on running_of
    who_finish o = elected_same (at (figures_after p f r Finish).released) _ (rank_of p (figures_after p f r Finish)) p.tasks
        (SoundWords.finish_kept (scene S room))

  -- where nothing changes that a priority goes by, the same task runs
  who_still : (g : Figures) → g.released ≡ f.released → ((x : ℕ) → Same f g x) → r ≡ running_of p g
  unfolding running_of
  who_still g e same =
      F.running ∙ elected_same (at f.released) (rank_of p f) (rank_of p g) p.tasks (λ x. sym (same_rank p (same x)))
      ∙ ap (λ l. elected (at l) (rank_of p g) p.tasks) (sym e)

  who_after : (e : Event) → refusal_of p f r e ≡ Ok tt → Ruled p (figures_after p f r e)
      → (after_of pr p s e).head.running ≡ running_of p (figures_after p f r e)
  unfolding after_of words_after stays figures_after
  who_after (Release t) z R' = who_release (passed_room p f r (Release t) z) (allowed p f r (Release t) z) R'
  who_after (Acquire l) z R' = who_acquire (passed_room p f r (Acquire l) z) (allowed p f r (Acquire l) z) R'
  who_after (Unlock l) z R' = who_unlock (passed_room p f r (Unlock l) z) (allowed p f r (Unlock l) z) R'
  who_after (Work a) z R' = who_still (figures_after p f r (Work a)) refl (λ x. record { released = refl; depth = refl; takes = refl })
  who_after Finish z R' = who_finish (passed_room p f r Finish z) (allowed p f r Finish z)
  who_after Tick z R' = rw found (who_still (figures_after p f r Tick) refl (λ x. record { released = refl; depth = refl; takes = refl }))

  -- an event that does not enter the kernel leaves the others' priorities
  others_stay : (e : Event) → refusal_of p f r e ≡ Ok tt → enters (lazy_call w e) e ≡ false → (x : ℕ) → x ≢ r → Same f (figures_after p f r e) x
  unfolding enters figures_after
  others_stay (Release t) z h x n = untrue h
  others_stay (Acquire l) z h x n = let o = allowed p f r (Acquire l) z in SoundWords.take_same (scene S (passed_room p f r (Acquire l) z)) o.runs o x n
  others_stay (Unlock l) z h x n = let o = allowed p f r (Unlock l) z in SoundWords.give_same (scene S (passed_room p f r (Unlock l) z)) o.runs o x n
  others_stay (Work a) z h x n = record { released = refl; depth = refl; takes = refl }
  others_stay Finish z h x n = untrue h
  others_stay Tick z h x n = untrue h

  module _ (e : Event) (z : refusal_of p f r e ≡ Ok tt) (R' : Ruled p (figures_after p f r e))
      (who : (after_of pr p s e).head.running ≡ running_of p (figures_after p f r e)) where
    abbrev g : Figures
    g = figures_after p f r e

    abbrev v : Words
    v = words_after pr p f g.released w e

    after_words : SoundWords pr p g v
    unfolding after_of
    after_words = (after_sound S e z).sound.words

    -- the user word and what is kept are at least every other released task's priority, since the task that runs is the best one
    top_covers : Covers p g v.running v.user
    unfolding after_of
    top_covers y n o =
        let b : Best (standing p g) v.running = rw who (runs_best O R' (some_runs O R' y o)) in
        omega (arith, b.top y o, after_words.user, rank_out p g v.running b.out)

    kept_covers : Covers p g v.running (best_kept v.kept p.tasks)
    kept_covers y n o =
        omega (
          arith,
          rank_out p g y o,
          kept_other p g v.running y n,
          after_words.kept y,
          greatest_all (at v.kept) p.tasks y (SoundFigures.inside R'.figured y o),
        )

    -- and nothing is kept above the user word
    kept_most : best_kept v.kept p.tasks ≤ v.user
    kept_most = greatest_least (at v.kept) v.user p.tasks (λ y l. at_or (λ y. at v.kept y ≤ v.user) v.running
        (omega (arith, after_words.kept v.running, kept_own p g v.running))
        (λ y n. ⊎_elim (λ q. omega (arith, after_words.kept y, kept_other p g v.running y n, rank_in p g y q))
        (λ o. omega (arith, after_words.kept y, kept_other p g v.running y n, rank_out p g y o, top_covers y n o)) (eq-zero-or-pos (at g.released y))) y)

    covers_after : Covers p g v.running v.next
    covers_after = by_test (enters (lazy_call w e) e)
        (λ h. subst (Covers p g v.running) (sym (entered pr p f g.released w e h).next)
        (entry_either (Covers p g v.running) pr v.user (best_kept v.kept p.tasks) top_covers kept_covers))
        (λ h y n o.
        let l : Left pr p f g.released w v = left pr p f g.released w e h in
        let m : y ≢ r = λ i. n (i ∙ sym l.running) in
        let same : Same f g y = others_stay e z h y m in
        omega (arith, l.next, same_priority p same, F.covers y m (omega (arith, same.released))))

    most_after : v.next ≤ v.user
    most_after = by_test (enters (lazy_call w e) e)
        (λ h. subst (λ n. n ≤ v.user) (sym (entered pr p f g.released w e h).next)
        (entry_either (λ n. n ≤ v.user) pr v.user (best_kept v.kept p.tasks) (omega arith) kept_most))
        (λ h. let l : Left pr p f g.released w v = left pr p f g.released w e h in omega (arith, l.next, l.user F.at_most))

  follow_by : (e : Event) (t : Tested) → refusal_of p f r e ≡ t → Follows pr p (answered t s (after_of pr p s e) (lazy_call w e)).state
  unfolding answered after_of
  follow_by e (Ok _) z =
      let R' : Ruled p (figures_after p f r e) = rw F.running (ruled_kept O R e (same_test e ∙ z)) in
      let who : (after_of pr p s e).head.running ≡ running_of p (figures_after p f r e) = who_after e z R' in
      record {
        sound = after_sound S e z;
        ruled = R';
        running = who;
        covers = covers_after e z R' who;
        at_most = most_after e z R' who;
      }
  follow_by e (Err why) z = F

  figures_by : (e : Event) (t : Tested) → figures_of (answered t s (after_of pr p s e) (lazy_call w e)).state ≡ settle t (figures_after p f r e) f
  unfolding settle answered after_of
  figures_by e (Ok _) = refl
  figures_by e (Err why) = refl

  pub follow_one : (e : Event) → Follows pr p (step_of pr p s e).state
  unfolding act_of
  follow_one e = subst (λ (x : Stepped). Follows pr p x.state) (sym (step_act S e)) (follow_by e (refusal_of p f r e) refl)

  pub figures_one : (e : Event) → figures_of (step_of pr p s e).state ≡ eager_step p f e
  unfolding act_of eager_step
  figures_one e =
      ap (λ (x : Stepped). figures_of x.state) (step_act S e) ∙ figures_by e (refusal_of p f r e)
      ∙ ap₂ (λ t x. settle t (figures_after p f x e) f) (sym (same_test e)) F.running

-- ---- along a list of events

fresh_who : {p : Plan} → Obeys p → nobody ≡ running_of p fresh_figures
unfolding running_of
fresh_who {p} O =
    sym (elected_none (at fresh_figures.released) (rank_of p fresh_figures) p.tasks (omega (arith, few_tasks O))
    (omega (arith, greatest_least (rank_of p fresh_figures) 0 p.tasks (λ x l. omega (arith, rank_in p fresh_figures x (zero_past max_tasks x))))))

module _ (pr : Protocol) {p : Plan} (O : Obeys p) (es : List Event) where
  pub follows : (k : ℕ) → Follows pr p (lazy_at pr p es k)
  unfolding lazy_at
  follows zero = record {
    sound = fresh_sound pr O;
    ruled = ruled_fresh p;
    running = fresh_who O;
    covers = λ y n o. absurd (omega (arith, zero_past max_tasks y));
    at_most = omega arith;
  }
  follows (suc k) = follow_one (follows k) (event_at es k)

  -- the figures are the eager scheduler's, and so is the running task
  pub same_figures : (k : ℕ) → figures_of (lazy_at pr p es k) ≡ eager_at p es k
  unfolding lazy_at eager_at
  same_figures zero = refl
  same_figures (suc k) = figures_one (follows k) (event_at es k) ∙ ap (λ g. eager_step p g (event_at es k)) (same_figures k)

  pub same_running : (k : ℕ) → (lazy_at pr p es k).head.running ≡ runner_at p es k
  same_running k = (follows k).running ∙ ap (running_of p) (same_figures k)

  -- both schedulers test the event at place k alike
  pub same_tests : (k : ℕ) → eager_test p (eager_at p es k) (event_at es k)
      ≡ refusal_of p (figures_of (lazy_at pr p es k)) (lazy_at pr p es k).head.running (event_at es k)
  same_tests k = ap (λ f. eager_test p f (event_at es k)) (sym (same_figures k)) ∙ same_test (follows k) (event_at es k)
