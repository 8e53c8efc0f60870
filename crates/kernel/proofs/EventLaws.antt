-- Each accepted event from what its code does, one after the other: the state is the one of RULES 9. Assumes nothing.
use Rattle.std.specs.Prelude.{Ok, Err}
use mathlib.Core.Path.{◌≡◌, refl, sym, ◌∙◌, ap, ap₂}
use mathlib.Core.Bool.{Bool, true, false}
use mathlib.Core.List.{List}
use Prim.Native.Nat.{ℕ, ◌+◌, ◌-◌, ◌%◌, ◌^◌, ◌<◌, max}
use native.Mathlib.Nat.{add-zero}
use native.Mathlib.Omega.{arith}
use lib.Dec.{eqb}
use lib.ListN.{length, set}
use lib.Seq.{set-get_or}
use Rattle.rules.specs.Numbers.Capacity.{max_tasks, max_accepted}
use Rattle.rules.specs.Numbers.Place.{at, renewed}
use Rattle.rules.specs.Numbers.Row.{newest, under, pushed, has}
use Rattle.rules.specs.Schedulers.Figures.{Figures, figures_of}
use Rattle.rules.specs.Schedulers.FiguresAfter.{differs, left_of, stays_open, eager_calls, delayed, figures_after}
use Rattle.rules.specs.Schedulers.Protocol.{second_word}
use Rattle.rules.specs.Schedulers.Lazy.{words_of, state_of, calls_for, entering, best_kept, stays, restored, leaves, switched}
use Rattle.rules.specs.Schedulers.Lazy.{after_release, after_acquire, after_unlock, words_after, lazy_call}
use Rattle.rules.specs.Replays.Step.{after_of, answered, act_of}
use Rattle.rules.specs.declared.plan.Plan.{Plan}
use Rattle.rules.specs.declared.protocol.Protocol.{Protocol}
use Rattle.rules.specs.declared.state.State.{State}
use Rattle.rules.specs.Schedulers.EventRefusals.{refusal_of}
use Rattle.rules.specs.declared.event.Event.{Event}
use Rattle.rules.specs.declared.refusal.Refusal.{Refusal}
use Rattle.rules.specs.declared.priority.KernelPriority.{KernelPriority}
use Rattle.rules.specs.declared.priority.UserPriority.{UserPriority}
use Rattle.rules.proofs.Numbers.Choice.{if_true, if_false}
use Rattle.rules.proofs.Schedulers.Rules.{left_same, left_none}
use Rattle.rules.proofs.Schedulers.Passed.{allowed}
use Rattle.rules.proofs.Schedulers.WordsKept.{take_calls, give_calls}
use Rattle.rules.proofs.Soundness.SoundKept.{scene}
use Rattle.figures.proofs.Rows.{push_fits}
use Rattle.tournament.specs.Keys.{tournament_of}
use Rattle.tournament.specs.Tournament.{IsTournamentOf}
use Rattle.tournament.specs.declared.tree.Tournament.{Tournament}
use Rattle.tournament.proofs.KeyLaws.{put_idle}
use Rattle.kernel.specs.Acting.{Accepts, IdleWord, calls_at_acquire, calls_at_unlock, given_back, told_of, with_words, worked}
use Rattle.kernel.specs.Ready.{ReleaseReady, AcquireReady, UnlockReady, FinishReady}
use Rattle.kernel.specs.Work.{charged_row}
use Rattle.kernel.proofs.Ready.{accept_room, acquire_row, acquire_words}
use Rattle.kernel.proofs.WorkLaws.{charges}

-- a tournament stands for another state of the same release numbers and kept priorities
stands : (n : ℕ) (tree : Tournament) (s : State) → tree.tasks ≡ n → tree.keys ≡ tournament_of n s.released s.kept → length s.kept ≡ max_tasks
    → IsTournamentOf tree.tasks tree s
stands n tree s t k z = record { tasks = refl; keys = k ∙ ap (λ m. tournament_of m s.released s.kept) (sym t); sized = z }

module _ (p : Plan) (s : State) where
  abbrev f : Figures
  f = figures_of s

  abbrev r : ℕ
  r = s.head.running

  -- the state with one event more
  abbrev pub counted : State
  counted = record s { head = record s.head { accepted = s.head.accepted + 1 } }

  -- ---- tick

  pub tick_acts : (pr : Protocol) (n : ℕ) (found : State) (best next : KernelPriority) → found ≡ with_words counted (entering p.maximum (words_of counted))
      → best.0 ≡ best_kept found.kept n → n ≡ p.tasks → next ≡ record { 0 = second_word pr found.head.user.0 best.0 }
      → record found { head = record found.head { next = next } } ≡ after_of pr p s Event.Tick
  unfolding after_of figures_after eager_calls words_after stays entering
  tick_acts pr n found best next e b t w = rw (w, b, t, e, add-zero s.head.eager)

  pub tick_stands : (n : ℕ) (found : State) (tree : Tournament) → found ≡ with_words counted (entering p.maximum (words_of counted)) → IsTournamentOf n tree s
      → IsTournamentOf tree.tasks tree found
  unfolding entering
  tick_stands n found tree e T = rw e (stands n tree _ T.tasks T.keys T.sized)

  -- ---- finish

  abbrev pub finished : State
  finished = record counted { released = set s.released r 0 }

  pub finish_acts : (pr : Protocol) (n : ℕ) (found after : State) → FinishReady s
      → found ≡ with_words finished (entering p.maximum (words_of finished)) → n ≡ p.tasks
      → after ≡ with_words found (switched pr n found.released found.kept (words_of found)) → after ≡ after_of pr p s Event.Finish
  unfolding after_of figures_after eager_calls words_after entering
  finish_acts pr n found after R e t g =
      let k : set s.kept r 0 ≡ s.kept = sym (ap (set s.kept r) R.left) ∙ set-get_or s.kept r 0 in
      rw (g, t, e, k, add-zero s.head.eager)

  -- the tournament stands: nothing is kept for the task that is done
  pub finish_stands : (n : ℕ) (found : State) (tree : Tournament) → FinishReady s
      → found ≡ with_words finished (entering p.maximum (words_of finished)) → IsTournamentOf n tree s → IsTournamentOf tree.tasks tree found
  unfolding entering
  finish_stands n found tree R e T = rw e (stands n tree _ T.tasks (put_idle n tree s T r 0 R.left) T.sized)

  -- ---- release

  module _ (t : ℕ) where
    abbrev pub released : State
    released = record counted { released = set s.released t (s.head.accepted + 1); delay = set s.delay t 0 }

    pub release_acts : (pr : Protocol) (n : ℕ) (found after : State) (base : KernelPriority) → found ≡ with_words released (entering p.maximum (words_of released))
        → n ≡ p.tasks → base.0 ≡ at p.base t
        → after ≡ with_words found (after_release pr n found.released (set found.kept t base.0) base.0 (words_of found))
        → after ≡ after_of pr p s (Event.Release t)
    unfolding after_of figures_after eager_calls words_after entering
    release_acts pr n found after base e m b g = rw (g, m, b, e, add-zero s.head.eager)

    pub release_stands : (n : ℕ) (found : State) (tree : Tournament) → ReleaseReady p s t
        → found ≡ with_words released (entering p.maximum (words_of released)) → IsTournamentOf n tree s → IsTournamentOf tree.tasks tree found
    unfolding entering
    release_stands n found tree R e T = rw e (stands n tree _ T.tasks (put_idle n tree s T t (s.head.accepted + 1) R.arrives.none) T.sized)

  -- ---- acquire

  pub acquire_acts : (pr : Protocol) (l row words calls : ℕ) (user top : UserPriority) → AcquireReady s l → top.0 ≡ at p.ceiling l
      → row ≡ pushed (at s.takes r % 256 ^ 7) l → words ≡ pushed (at s.saved r % 256 ^ 7) s.head.user.0 → user.0 ≡ max s.head.user.0 top.0
      → calls ≡ differs s.head.user.0 user.0
      → record s {
        head = record s.head { accepted = s.head.accepted + 1; user = user; eager = s.head.eager + calls };
        depth = set s.depth r (at s.depth r + 1);
        takes = set s.takes r row;
        saved = set s.saved r words;
        owner = set s.owner l (r + 1);
      } ≡ told_of pr p s (Event.Acquire l) (calls_at_acquire p s l)
  unfolding told_of figures_after words_after after_acquire
  acquire_acts pr l row words calls user top R c t w u g =
      let U : user ≡ record { 0 = max s.head.user.0 (at p.ceiling l) } = ap (λ v. record { 0 = v }) (u ∙ ap (max s.head.user.0) c) in
      let E : calls ≡ calls_at_acquire p s l = g ∙ ap (differs s.head.user.0) (u ∙ ap (max s.head.user.0) c) in
      rw (E, U, push_fits (at s.takes r) l row (acquire_row R) t, push_fits (at s.saved r) s.head.user.0 words (acquire_words R) w)

  -- in a sound state the user word is the priority of the task that acts, so the calls are the figures'
  pub acquire_same : (pr : Protocol) (l : ℕ) → Accepts p s (Event.Acquire l) → told_of pr p s (Event.Acquire l) (calls_at_acquire p s l) ≡ after_of pr p s (Event.Acquire l)
  unfolding after_of told_of
  acquire_same pr l A =
      let o = allowed p f r (Event.Acquire l) A.passed in
      ap (λ v. state_of (record (figures_after p f r (Event.Acquire l)) { eager = v })
      (words_after pr p f (figures_after p f r (Event.Acquire l)).released (words_of s) (Event.Acquire l)))
      (sym (take_calls (scene A.sound (accept_room A)) o.runs o))

  -- ---- unlock: `back` is the state where the take is given back

  module _ (l calls : ℕ) (back : State) (R : UnlockReady s l) (given : back ≡ given_back l s) (g : calls ≡ differs s.head.user.0 back.head.user.0) where
    counts : calls ≡ calls_at_unlock s
    unfolding restored
    counts = g ∙ ap (λ (x : State). differs s.head.user.0 x.head.user.0) given

    -- the state that goes on
    abbrev pub restored_so : ℕ → State
    restored_so more = record back { head = record back.head { accepted = back.head.accepted + 1; lazy = back.head.lazy + more; eager = back.head.eager + calls } }

    module _ (call : Bool) (said : call ≡ calls_for back.head.user.0 back.head.next.0) where
      pub unlock_says : call ≡ lazy_call (words_of s) (Event.Unlock l)
      unfolding lazy_call restored
      unlock_says = said ∙ ap (λ (x : State). calls_for x.head.user.0 x.head.next.0) given

      said_so : (b : Bool) → call ≡ b → calls_for (newest (at s.saved r)) s.head.next.0 ≡ b
      unfolding restored
      said_so b y = sym (ap (λ (x : State). calls_for x.head.user.0 x.head.next.0) given) ∙ sym said ∙ y

      pub unlock_calls : (pr : Protocol) (n : ℕ) (found after : State) → call ≡ true
          → found ≡ with_words (restored_so 1) (entering p.maximum (words_of (restored_so 1))) → n ≡ p.tasks
          → after ≡ with_words found (leaves pr n found.released (words_of found)) → after ≡ told_of pr p s (Event.Unlock l) (calls_at_unlock s)
      unfolding told_of figures_after words_after after_unlock restored entering
      unlock_calls pr n found after y e m q = rw (q, m, e, given, add-zero s.head.lazy, counts, said_so true y)

      pub unlock_stays : (pr : Protocol) → call ≡ false
          → record back { head = record back.head { accepted = back.head.accepted + 1; eager = back.head.eager + calls } } ≡ told_of pr p s (Event.Unlock l) (calls_at_unlock s)
      unfolding told_of figures_after words_after after_unlock restored
      unlock_stays pr y = rw (given, counts, said_so false y)

    -- somebody runs, and the tournament stands
    pub unlock_idle : IdleWord (restored_so 1)
    unfolding restored
    unlock_idle = rw given (λ h. absurd (omega (arith, R.runs)))

    pub unlock_stands : (n : ℕ) (found : State) (tree : Tournament) → found ≡ with_words (restored_so 1) (entering p.maximum (words_of (restored_so 1)))
        → IsTournamentOf n tree s → IsTournamentOf tree.tasks tree found
    unfolding entering restored
    unlock_stands n found tree e T = rw (e, given) (stands n tree _ T.tasks T.keys T.sized)

    pub unlock_kept : (n : ℕ) (tree : Tournament) → IsTournamentOf n tree s →
        IsTournamentOf n tree (record back { head = record back.head { accepted = back.head.accepted + 1; eager = back.head.eager + calls } })
    unfolding restored
    unlock_kept n tree T = rw given (record { tasks = T.tasks; keys = T.keys; sized = T.sized })

    pub unlock_rooms : (back.head.eager < max_accepted) × (back.head.lazy < max_accepted)
    unfolding restored
    unlock_rooms = rw (given, add-zero s.head.lazy) (omega (arith, R.room, R.eager), omega (arith, R.room, R.lazy))

  pub unlock_same : (pr : Protocol) (l : ℕ) → Accepts p s (Event.Unlock l) → told_of pr p s (Event.Unlock l) (calls_at_unlock s) ≡ after_of pr p s (Event.Unlock l)
  unfolding after_of told_of
  unlock_same pr l A =
      let o = allowed p f r (Event.Unlock l) A.passed in
      ap (λ v. state_of (record (figures_after p f r (Event.Unlock l)) { eager = v })
      (words_after pr p f (figures_after p f r (Event.Unlock l)).released (words_of s) (Event.Unlock l)))
      (sym (give_calls (scene A.sound (accept_room A)) o.runs o))

  -- ---- work

  pub work_acts : (a : ℕ) (waited : State) (units : List ℕ) → waited ≡ record s { delay = renewed s.delay (delayed p f r a) p.tasks }
      → units ≡ charged_row waited.units a (at waited.takes r) (at waited.depth r)
      → record waited { head = record waited.head { accepted = waited.head.accepted + 1 }; units = units } ≡ worked p s a
  work_acts a waited units e u = rw (u, e)

  pub work_same : (pr : Protocol) (a : ℕ) → Accepts p s (Event.Work a) → worked p s a ≡ after_of pr p s (Event.Work a)
  unfolding after_of figures_after eager_calls words_after
  work_same pr a A = rw (charges A, add-zero s.head.eager)

-- ---- an eager call, where the words differ

module _ (before after : ℕ) where
  pub calls_none : true ≡ eqb before after → 0 ≡ differs before after
  unfolding differs
  calls_none e = sym (if_true (eqb before after) 0 1 (sym e))

  pub calls_one : false ≡ eqb before after → 1 ≡ differs before after
  unfolding differs
  calls_one e = sym (if_false (eqb before after) 0 1 (sym e))

-- ---- the take is given back: the section goes on where the lock stays open, and else it is over

module _ (l : ℕ) (s : State) (row : ℕ) (more : Bool) (read : row ≡ under (at s.takes s.head.running)) (told : more ≡ has row (at s.depth s.head.running - 1) l) where
  abbrev taken : List ℕ → List ℕ → State
  taken units owner = record s {
    depth = set s.depth s.head.running (at s.depth s.head.running - 1);
    takes = set s.takes s.head.running row;
    units = units;
    owner = owner;
  }

  abbrev ended : State
  ended = taken (set s.units l (left_of more (at s.units l))) (set s.owner l (left_of more (at s.owner l)))

  pub section_stays : more ≡ true → (after : State) → after ≡ taken s.units s.owner → after ≡ ended
  section_stays y after e = e ∙ ap₂ taken (kept s.units) (kept s.owner)
    where
      kept : (xs : List ℕ) → xs ≡ set xs l (left_of more (at xs l))
      kept xs = sym (ap (set xs l) (left_same more (at xs l) y) ∙ set-get_or xs l 0)

  pub section_ends : more ≡ false → (after : State) → after ≡ taken (set s.units l 0) (set s.owner l 0) → after ≡ ended
  section_ends y after e = e ∙ ap₂ (λ u o. taken (set s.units l u) (set s.owner l o)) (sym (left_none more (at s.units l) y)) (sym (left_none more (at s.owner l) y))

  pub gives_back : (joined : State) (user : UserPriority) (words : ℕ) → joined ≡ ended → user.0 ≡ newest (at joined.saved s.head.running)
      → words ≡ under (at joined.saved s.head.running)
      → record joined { head = record joined.head { user = user }; saved = set joined.saved s.head.running words } ≡ given_back l s
  unfolding restored stays_open
  gives_back joined user words e u w =
      let U : user ≡ record { 0 = newest (at joined.saved s.head.running) } = ap (λ v. record { 0 = v }) u in
      rw (w, U, e, told, read, add-zero s.head.lazy)

-- ---- the arms: an acquire, work and a tick leave the tournament as it is

module _ (pr : Protocol) (p : Plan) (s after : State) (n : ℕ) (tree : Tournament) (T : IsTournamentOf n tree s) where
  pub acquire_stands : (l : ℕ) → after ≡ after_of pr p s (Event.Acquire l) → IsTournamentOf n tree after
  unfolding after_of figures_after words_after after_acquire
  acquire_stands l e = rw e (record { tasks = T.tasks; keys = T.keys; sized = T.sized })

  pub work_stands : (a : ℕ) → after ≡ after_of pr p s (Event.Work a) → IsTournamentOf n tree after
  unfolding after_of figures_after words_after
  work_stands a e = rw e (record { tasks = T.tasks; keys = T.keys; sized = T.sized })

  pub ticked_stands : after ≡ after_of pr p s Event.Tick → IsTournamentOf n tree after
  unfolding after_of figures_after words_after stays entering
  ticked_stands e = rw e (record { tasks = T.tasks; keys = T.keys; sized = T.sized })

-- ---- the act: refused with what the tests say, or accepted

module _ (pr : Protocol) (p : Plan) (s : State) (e : Event) where
  pub act_refused : (why : Refusal) → Err why ≡ refusal_of p (figures_of s) s.head.running e
      → record { answer = Err why; state = s } ≡ act_of pr p s e
  unfolding act_of answered
  act_refused why t = ap (λ v. answered v s (after_of pr p s e) (lazy_call (words_of s) e)) t

  pub act_accepted : (call : Bool) (after : State) → Ok tt ≡ refusal_of p (figures_of s) s.head.running e → call ≡ lazy_call (words_of s) e
      → after ≡ after_of pr p s e → record { answer = Ok call; state = after } ≡ act_of pr p s e
  unfolding act_of answered
  act_accepted call after t c g = ap₂ (λ (v : Bool) (x : State). record { answer = Ok v; state = x }) c g
      ∙ ap (λ v. answered v s (after_of pr p s e) (lazy_call (words_of s) e)) t
