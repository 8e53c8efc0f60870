-- A fresh start is sound, and every accepted step keeps a state sound: so a run from a fresh start never needs the test, and 10 never occurs there. Assumes
-- nothing.
use Rattle.std.specs.Prelude.{ltb, Ok, Err}
use Rattle.rules.specs.Numbers.Verdict.{Tested}
use mathlib.Core.Path.{◌≡◌, refl, sym, ◌∙◌}
use mathlib.Core.Bool.{Bool}
use mathlib.Core.List.{List}
use Prim.Native.Nat.{ℕ, ◌+◌, ◌<◌}
use native.Mathlib.Omega.{arith}
use lib.ListN.{length, set, replicate, length-set, length-replicate}
use Rattle.rules.specs.Numbers.Capacity.{max_tasks, max_locks, max_accepted, nobody}
use Rattle.rules.specs.Numbers.Place.{at, greatest}
use Rattle.rules.specs.Numbers.Row.{under, pushed}
use Rattle.rules.specs.Books.Plan.{Obeys}
use Rattle.rules.specs.Schedulers.Figures.{Figures, figures_of, fresh_figures, rank_of}
use Rattle.rules.specs.Schedulers.Elect.{elected}
use Rattle.rules.specs.Schedulers.EventRefusals.{refusal_of}
use Rattle.rules.specs.Schedulers.FiguresAfter.{stays_open, left_of, figures_after}
use Rattle.rules.specs.Schedulers.Lazy.{Words, WordsSized, words_of, entering, runs_on, switched, stays}
use Rattle.rules.specs.Schedulers.Lazy.{after_release, after_acquire, restored, leaves, after_unlock, words_after}
use Rattle.rules.specs.Schedulers.State.{fresh_of}
use Rattle.rules.specs.Soundness.Sound.{SoundFigures, kept_of, SoundSecond, SoundWords, Sound, SoundAndSized}
use Rattle.rules.specs.Soundness.SoundTest.{sound_test}
use Rattle.rules.specs.Replays.Step.{after_of, answered, act_of, step_of}
use Rattle.rules.specs.declared.plan.Plan.{Plan}
use Rattle.rules.specs.declared.protocol.Protocol.{Protocol}
use Rattle.rules.specs.declared.protocol.Protocol.TheVariants.{Second, First}
use Rattle.rules.specs.declared.state.State.{State}
use Rattle.rules.specs.declared.event.Event.{Event}
use Rattle.rules.specs.declared.event.Event.TheVariants.{Release, Acquire, Unlock, Work, Finish, Tick}
use Rattle.rules.proofs.Numbers.Choice.{if_true, either}
use Rattle.rules.proofs.Numbers.Place.{zero_past, greatest_least}
use Rattle.rules.proofs.Schedulers.Passed.{passed_room, allowed}
use Rattle.rules.proofs.Schedulers.FiguresKept.{sized_moved, fresh_sized, fresh_shut, fresh_figured, figured_kept}
use Rattle.rules.proofs.Schedulers.WordsKept.{Scene, owner_none, worded_kept}
use Rattle.rules.proofs.Schedulers.Rules.{rank_in}
use Rattle.rules.proofs.Soundness.SoundTest.{unsaved_by, sound_is}

-- ---- there stays a place for every task and lock

set_length : (xs : List ℕ) (i v n : ℕ) → length xs ≡ n → length (set xs i v) ≡ n
set_length xs i v n e = length-set xs i v ∙ e

switched_sized : (pr : Protocol) (n : ℕ) (released kept : List ℕ) (w : Words) → WordsSized w → length kept ≡ max_tasks
    → WordsSized (switched pr n released kept w)
unfolding switched runs_on
switched_sized pr n released kept w Y e =
    record { kept = set_length kept (elected (at released) (at kept) n) 0 max_tasks e; saved = Y.saved; owner = Y.owner }

restored_sized : (stays : Bool) (l c : ℕ) (w : Words) → WordsSized w → WordsSized (restored stays l c w)
unfolding restored
restored_sized stays l c w Y = record {
  kept = Y.kept;
  saved = set_length w.saved w.running (under (at w.saved w.running)) max_tasks Y.saved;
  owner = set_length w.owner l (left_of stays (at w.owner l)) max_locks Y.owner;
}

entering_sized : (maximum : List ℕ) (w : Words) → WordsSized w → WordsSized (entering maximum w)
unfolding entering
entering_sized maximum w Y = record { kept = Y.kept; saved = Y.saved; owner = Y.owner }

leaves_sized : (pr : Protocol) (n : ℕ) (released : List ℕ) (w : Words) → WordsSized w → WordsSized (leaves pr n released w)
unfolding leaves
leaves_sized pr n released w Y = switched_sized pr n released (set w.kept w.running w.user) w Y
    (set_length w.kept w.running w.user max_tasks Y.kept)

pub words_sized_lem : (pr : Protocol) (p : Plan) (f : Figures) (released : List ℕ) (w : Words) (e : Event) → WordsSized w
    → WordsSized (words_after pr p f released w e)
unfolding words_after after_release stays after_acquire after_unlock
words_sized_lem pr p f released w (Release t) Y =
    let k : length (set w.kept t (at p.base t)) ≡ max_tasks = set_length w.kept t (at p.base t) max_tasks Y.kept in
    let v : Words = entering p.maximum w in
    either WordsSized (ltb v.user (at p.base t)) _ _
    (switched_sized pr p.tasks released (set (set w.kept t (at p.base t)) v.running v.user) v (entering_sized p.maximum w Y)
    (set_length (set w.kept t (at p.base t)) v.running v.user max_tasks k))
    (record { kept = k; saved = (entering_sized p.maximum w Y).saved; owner = (entering_sized p.maximum w Y).owner })
words_sized_lem pr p f released w (Acquire l) Y = record {
  kept = Y.kept;
  saved = set_length w.saved w.running (pushed (at w.saved w.running) w.user) max_tasks Y.saved;
  owner = set_length w.owner l (w.running + 1) max_locks Y.owner;
}
words_sized_lem pr p f released w (Unlock l) Y =
    either WordsSized _ _ _
    (leaves_sized pr p.tasks released _ (entering_sized p.maximum _ (restored_sized (stays_open f w.running l) l 1 w Y)))
    (restored_sized (stays_open f w.running l) l 0 w Y)
words_sized_lem pr p f released w (Work a) Y = Y
words_sized_lem pr p f released w Finish Y = switched_sized pr p.tasks released (set w.kept w.running 0) _ (entering_sized p.maximum w Y)
    (set_length w.kept w.running 0 max_tasks Y.kept)
words_sized_lem pr p f released w Tick Y = record { kept = Y.kept; saved = (entering_sized p.maximum w Y).saved; owner = (entering_sized p.maximum w Y).owner }

pub scene : {pr : Protocol} {p : Plan} {s : State} → SoundAndSized pr p s → s.head.accepted < max_accepted → Scene pr p (figures_of s) (words_of s)
scene S room = record {
  stage = record { plan = S.sound.plan; sized = S.figures_sized; figured = S.sound.figures; room = room };
  sized = S.words_sized;
  worded = S.sound.words;
}

-- ---- a fresh start

fresh_kept : (p : Plan) (x : ℕ) → at fresh_figures.released x ≡ 0 → kept_of p fresh_figures nobody x ≡ 0
unfolding kept_of
fresh_kept p x z = either (λ k. k ≡ 0) _ 0 (rank_of p fresh_figures x) refl (rank_in p fresh_figures x z)

fresh_second : (pr : Protocol) (user best : ℕ) → 0 ≡ best → SoundSecond pr 0 user best
unfolding SoundSecond
fresh_second Second user best e = e
fresh_second First user best e = omega arith

pub fresh_sound : (pr : Protocol) {p : Plan} → Obeys p → SoundAndSized pr p fresh_of
fresh_sound pr {p} O = record {
  figures_sized = fresh_sized;
  words_sized = record { kept = length-replicate {A = ℕ} max_tasks 0; saved = length-replicate {A = ℕ} max_tasks 0; owner = length-replicate {A = ℕ} max_locks 0 };
  sound = record { plan = O; figures = fresh_figured p; words = words };
}
  where
    task : (x : ℕ) → at (replicate max_tasks 0) x ≡ 0
    task = zero_past max_tasks

    kept : (x : ℕ) → kept_of p fresh_figures nobody x ≡ 0
    kept x = fresh_kept p x (task x)

    words : SoundWords pr p fresh_figures (words_of fresh_of)
    words = record {
      idle = λ e x. task x;
      runs = λ n. absurd (n refl);
      user = sym (rank_in p fresh_figures nobody (task nobody));
      next = fresh_second pr 0 (greatest (kept_of p fresh_figures nobody) p.tasks)
          (omega (arith, greatest_least (kept_of p fresh_figures nobody) 0 p.tasks (λ x l. omega (arith, kept x))));
      kept = λ x. task x ∙ sym (kept x);
      saved = λ x. task x ∙ sym (unsaved_by p fresh_figures x (task x));
      owner = λ l. zero_past max_locks l ∙ sym (owner_none fresh_figures l p.tasks (λ x q. fresh_shut x l));
      lazy = omega arith;
    }

-- ---- an accepted step

module _ {pr : Protocol} {p : Plan} {s : State} (S : SoundAndSized pr p s) where
  pub after_sound : (e : Event) → refusal_of p (figures_of s) s.head.running e ≡ Ok tt → SoundAndSized pr p (after_of pr p s e)
  unfolding after_of
  after_sound e z =
      let r : ℕ = s.head.running in
      let f : Figures = figures_of s in
      let X : Sound pr p s = S.sound in
      let G : SoundFigures p (figures_after p f r e) = figured_kept X.plan S.figures_sized X.figures r X.words.runs e z in
      record {
        figures_sized = sized_moved p f r e S.figures_sized;
        words_sized = words_sized_lem pr p f (figures_after p f r e).released (words_of s) e S.words_sized;
        sound = record {
          plan = X.plan;
          figures = G;
          words = worded_kept (scene S (passed_room p f r e z)) e (allowed p f r e z) G;
        };
      }

  act_by : (e : Event) (t : Tested) → refusal_of p (figures_of s) s.head.running e ≡ t → (after : State) (call : Bool)
      → (t ≡ Ok tt → SoundAndSized pr p after) → SoundAndSized pr p (answered t s after call).state
  unfolding answered
  act_by e (Ok _) z after call h = h refl
  act_by e (Err why) z after call h = S

  pub act_sound : (e : Event) → SoundAndSized pr p (act_of pr p s e).state
  unfolding act_of
  act_sound e = act_by e (refusal_of p (figures_of s) s.head.running e) refl (after_of pr p s e) _ (after_sound e)

  -- in a sound state the step is the act: 10 is not given
  pub step_act : (e : Event) → step_of pr p s e ≡ act_of pr p s e
  unfolding step_of
  step_act e = if_true (sound_test pr p s) (act_of pr p s e) _ ((sound_is pr p s).1 S.sound)
