-- What a sound state has, and what the code of an event asks for where it is accepted. Assumes nothing.
use mathlib.Core.Path.{◌≡◌, sym, ◌∙◌, ap}
use mathlib.Core.Logic.{◌≢◌}
use Prim.Native.Nat.{ℕ, ◌≤◌, ◌<◌, ◌^◌}
use native.Mathlib.Nat.{lt_of_lt_of_le, pow-le-pow_right}
use native.Mathlib.Omega.{arith}
use Rattle.rules.specs.Numbers.Capacity.{max_tasks, max_locks, max_accepted, nobody}
use Rattle.rules.specs.Numbers.Place.{at}
use Rattle.rules.specs.Schedulers.EventRefusals.{refusal_of}
use Rattle.rules.specs.Schedulers.Figures.{figures_of, holds}
use Rattle.rules.specs.Schedulers.Lazy.{cut_to, entering, words_of}
use Rattle.rules.specs.Soundness.Sound.{saved_of}
use Rattle.rules.specs.declared.plan.Plan.{Plan}
use Rattle.rules.specs.declared.state.State.{State}
use Rattle.rules.specs.declared.event.Event.{Event}
use Rattle.rules.proofs.Soundness.Shortcuts.{kept_none, kept_running, idle_word, newcomer_other, waiting}
use Rattle.rules.proofs.Schedulers.Rules.{uncut}
use Rattle.rules.proofs.Schedulers.FiguresKept.{inside}
use Rattle.rules.proofs.Schedulers.Passed.{Releasable, Takeable, Givable, allowed, passed_room}
use Rattle.rules.proofs.Numbers.Row.{saves_places}
use Rattle.rules.proofs.Books.Obeyed.{few_tasks, few_locks, base_byte, ceiling_byte}
use Rattle.kernel.specs.Acting.{IsSound, IsSoundButForUser, Accepts, IdleWord, Arrives, with_words}
use Rattle.kernel.specs.Ready.{TickReady, ReleaseReady, AcquireReady, UnlockReady, WorkReady, FinishReady}

-- ---- a sound state, whatever its user word

module _ {p : Plan} {s : State} (I : IsSoundButForUser p s) where
  pub tasks_in : p.tasks ≤ max_tasks
  tasks_in = few_tasks I.sound.sound.plan

  pub locks_in : p.locks ≤ max_locks
  locks_in = few_locks I.sound.sound.plan

  pub runs_in : s.head.running ≢ nobody → s.head.running < p.tasks
  runs_in n = inside I.sound.sound.figures s.head.running (I.sound.sound.words.runs n)

pub but_for_user : {p : Plan} {s : State} → IsSound p s → IsSoundButForUser p s
but_for_user {p} {s} I = record { protocol = I.protocol; user = s.head.user; sound = I.sound }

-- ---- and one in which an event is accepted: what the code of the event asks for

module _ {p : Plan} {s : State} {e : Event} (A : Accepts p s e) where
  pub is_sound : IsSound p s
  is_sound = record { protocol = A.protocol; sound = A.sound }

  accept_sound : IsSoundButForUser p s
  accept_sound = but_for_user is_sound

  pub accept_room : s.head.accepted < max_accepted
  accept_room = passed_room p (figures_of s) s.head.running e A.passed

pub accepts_as : {p : Plan} {s : State} {e e₂ : Event} → e ≡ e₂ → Accepts p s e → Accepts p s e₂
accepts_as {p} {s} q A = record {
  protocol = A.protocol;
  sound = A.sound;
  passed = ap (refusal_of p (figures_of s) s.head.running) (sym q) ∙ A.passed;
}

module _ {p : Plan} {s : State} where
  pub tick_ready : Accepts p s Event.Tick → TickReady s
  tick_ready A = record { room = accept_room A; idle = λ l. idle_word A.sound (omega (arith, l, tasks_in (accept_sound A))) }

  pub release_ready : {t : ℕ} → Accepts p s (Event.Release t) → ReleaseReady p s t
  release_ready {t} A =
      let o : Releasable p (figures_of s) t = allowed p (figures_of s) s.head.running (Event.Release t) A.passed in record {
        room = accept_room A;
        arrives = record {
          known = o.known;
          none = kept_none A.sound t o.resting;
          other = newcomer_other A.sound t o.known o.resting;
          left = kept_running A.sound;
          idle = idle_word A.sound;
        };
      }

  -- a saved row is as long as the row of takes
  pub acquire_ready : {l : ℕ} → Accepts p s (Event.Acquire l) → AcquireReady s l
  unfolding saved_of
  acquire_ready {l} A =
      let o : Takeable p (figures_of s) s.head.running l = allowed p (figures_of s) s.head.running (Event.Acquire l) A.passed in record {
        room = accept_room A;
        lazy = A.sound.sound.words.lazy;
        eager = A.sound.sound.figures.eager;
        runs = omega (arith, runs_in (accept_sound A) o.runs, tasks_in (accept_sound A));
        known = omega (arith, o.known, locks_in (accept_sound A));
        free = o.room;
        row = A.sound.sound.figures.places s.head.running;
        words = rw (A.sound.sound.words.saved s.head.running) (saves_places (at p.ceiling) (at p.base s.head.running) (at s.takes s.head.running)
            (at s.depth s.head.running) (base_byte A.sound.sound.plan s.head.running) (ceiling_byte A.sound.sound.plan));
      }

  pub unlock_ready : {l : ℕ} → Accepts p s (Event.Unlock l) → UnlockReady s l
  unlock_ready {l} A =
      let o : Givable p (figures_of s) s.head.running l = allowed p (figures_of s) s.head.running (Event.Unlock l) A.passed in record {
        room = accept_room A;
        lazy = A.sound.sound.words.lazy;
        eager = A.sound.sound.figures.eager;
        runs = omega (arith, runs_in (accept_sound A) o.runs, tasks_in (accept_sound A));
        known = omega (arith, o.known, locks_in (accept_sound A));
        some = o.some;
      }

  pub work_ready : {a : ℕ} → Accepts p s (Event.Work a) → WorkReady p s
  unfolding holds
  work_ready {a} A = record {
    room = accept_room A;
    runs = omega (arith, runs_in (accept_sound A) (allowed p (figures_of s) s.head.running (Event.Work a) A.passed).runs, tasks_in (accept_sound A));
    locks = record { known = λ l h. omega (arith, A.sound.sound.figures.known s.head.running l h, locks_in (accept_sound A)) };
    waiting = λ x o l. waiting A.sound x o l;
  }

  pub finish_ready : Accepts p s Event.Finish → FinishReady s
  finish_ready A = record {
    room = accept_room A;
    runs = omega (arith, runs_in (accept_sound A) (allowed p (figures_of s) s.head.running Event.Finish A.passed).runs, tasks_in (accept_sound A));
    left = kept_running A.sound;
  }

-- ---- where it is ready

module _ {p : Plan} {s : State} {t : ℕ} (R : ReleaseReady p s t) (few : p.tasks ≤ max_tasks) where
  pub release_in : t < max_tasks
  release_in = omega (arith, R.arrives.known, few)

  pub release_idle : IdleWord s
  release_idle l = R.arrives.idle (omega (arith, few))

  -- the newcomer arrives at the word that the kernel finds; the release numbers and the delays are not asked
  pub release_arrives : (n : ℕ) → n ≡ p.tasks → (found s₂ : State) → s₂.kept ≡ s.kept → s₂.head.running ≡ s.head.running → s₂.head.user ≡ s.head.user
      → found ≡ with_words s₂ (entering p.maximum (words_of s₂)) → Arrives n found t
  unfolding entering
  release_arrives n m found s₂ k q u e = rw (m, e, k, q, u) (record {
    known = R.arrives.known;
    none = R.arrives.none;
    other = R.arrives.other;
    left = R.arrives.left;
    idle = λ l. ap (cut_to (at p.maximum s.head.running)) (R.arrives.idle l) ∙ uncut (at p.maximum s.head.running) 0 (omega arith);
  })

module _ {s : State} {l : ℕ} (R : AcquireReady s l) where
  -- rows of less than eight have room in a number of eight places
  pub acquire_row : at s.takes s.head.running < 256 ^ 7
  acquire_row = lt_of_lt_of_le R.row (let g : at s.depth s.head.running ≤ 7 = omega (arith, R.free) in pow-le-pow_right (omega arith) g)

  pub acquire_words : at s.saved s.head.running < 256 ^ 7
  acquire_words = lt_of_lt_of_le R.words (let g : at s.depth s.head.running ≤ 7 = omega (arith, R.free) in pow-le-pow_right (omega arith) g)
