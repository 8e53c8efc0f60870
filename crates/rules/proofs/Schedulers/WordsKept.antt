-- An accepted event keeps the words what the rules give, whichever released task runs; so a sound state stays sound. Assumes nothing.
use Rattle.std.specs.Prelude.{if◌then◌else◌}
use mathlib.Core.Path.{◌≡◌, refl, sym, ◌∙◌, ap, ap₂, subst}
use mathlib.Core.Logic.{◌≢◌, ⊎_elim}
use mathlib.Core.Bool.{true, false, ◌||◌}
use mathlib.Core.List.{List, [], ◌∷◌}
use Prim.Native.Nat.{ℕ, zero, suc, ◌+◌, ◌≤◌, ◌<◌, max}
use native.Mathlib.Nat.{eq-zero-or-pos, not-suc-le-zero}
use native.Mathlib.Numerals.{add-one}
use native.Mathlib.Decide.{ℕ_discrete}
use native.Mathlib.Omega.{arith}
use lib.Dec.{ltb}
use lib.ListN.{length, set, length-set}
use lib.Seq.{get_or-set_same, get_or-set_other}
use borrow.Author.Tests.{ltb-false, eq-eqb, ne_eqb}
use Rattle.rules.specs.Numbers.Capacity.{max_tasks, nobody}
use Rattle.rules.specs.Numbers.Place.{at, greatest}
use Rattle.rules.specs.Numbers.Row.{newest, under, pushed, priority, saves}
use Rattle.rules.specs.Books.Plan.{Obeys}
use Rattle.rules.specs.Schedulers.Figures.{Figures, holds, priority_of, rank_of}
use Rattle.rules.specs.Schedulers.Elect.{elected}
use Rattle.rules.specs.Schedulers.FiguresAfter.{differs, eager_calls, stays_open, left_of, figures_after}
use Rattle.rules.specs.Schedulers.Protocol.{second_word}
use Rattle.rules.specs.Schedulers.Lazy.{Words, WordsSized, calls_for, entering, best_kept, back_of, runs_on, switched, stays}
use Rattle.rules.specs.Schedulers.Lazy.{after_release, after_acquire, restored, leaves, after_unlock, words_after}
use Rattle.rules.specs.Soundness.Sound.{SoundFigures, kept_of, saved_of, owner_of, SoundSecond, SoundWords}
use Rattle.rules.specs.declared.plan.Plan.{Plan}
use Rattle.rules.specs.declared.protocol.Protocol.{Protocol}
use Rattle.rules.specs.declared.event.Event.{Event}
use Rattle.rules.specs.declared.event.Event.TheVariants.{Release, Acquire, Unlock, Work, Finish, Tick}
use Rattle.rules.proofs.Numbers.Choice.{if_true, if_false, by_test, untrue, not_so, at_or, lt_or_le}
use Rattle.rules.proofs.Numbers.Place.{greatest_ext, cleared}
use Rattle.rules.proofs.Numbers.Row.{priority_pushed, saves_newest, saves_under, saves_pushed}
use Rattle.rules.proofs.Schedulers.Rules.{no_call, rank_out, rank_in, base_priority, plain_priority, kept_other, kept_own}
use Rattle.rules.proofs.Schedulers.Rules.{entry_sound, stays_sound, left_same, left_none}
use Rattle.rules.proofs.Schedulers.Elect.{elected_lead, elected_some, elected_one}
use Rattle.rules.proofs.Books.Obeyed.{few_tasks, few_locks, base_some, base_byte, ceiling_byte}
use Rattle.rules.proofs.Schedulers.Passed.{Releasable, Takeable, Givable, Finishable, Allowed}
use Rattle.rules.proofs.Schedulers.FiguresKept as SoundFigures
use Rattle.rules.proofs.Schedulers.FiguresKept.{Same, same_rank, same_holds}
use Rattle.rules.proofs.Schedulers.Maximum.{enters_same, calls_same}

-- ---- lists

-- what is written past the end is lost
pub written : (xs : List ℕ) (r v : ℕ) → (length xs ≤ r → v ≡ 0) → at (set xs r v) r ≡ v
written [] r v h = sym (h (omega arith))
written (x ∷ xs) zero v h = refl
written (x ∷ xs) (suc r) v h = written xs r v (λ l. h (omega arith))

-- ---- saved priorities

same_saved : (p : Plan) {f g : Figures} {x : ℕ} → Same f g x → saved_of p g x ≡ saved_of p f x
unfolding saved_of
same_saved p {f} {g} {x} s = ap₂ (saves (at p.ceiling) (at p.base x)) s.takes s.depth

-- ---- owners

module _ (f g : Figures) (l : ℕ) where
  owner_same : (n : ℕ) → ((x : ℕ) → x < n → holds g x l ≡ holds f x l) → owner_of g n l ≡ owner_of f n l
  unfolding owner_of
  owner_same zero h = refl
  owner_same (suc k) h = ap₂ (λ a b. if a then suc k else b) (h k (omega arith)) (owner_same k (λ x q. h x (omega arith)))

module _ (f : Figures) (l : ℕ) where
  pub owner_none : (n : ℕ) → ((x : ℕ) → x < n → holds f x l ≡ false) → owner_of f n l ≡ 0
  unfolding owner_of
  owner_none zero h = refl
  owner_none (suc k) h = if_false (holds f k l) (suc k) (owner_of f k l) (h k (omega arith)) ∙ owner_none k (λ x q. h x (omega arith))

  pub owner_is : (r n : ℕ) → r < n → holds f r l ≡ true → ((y : ℕ) → holds f y l ≡ true → y ≡ r) → owner_of f n l ≡ suc r
  unfolding owner_of
  owner_is r zero q h one = absurd (not-suc-le-zero q)
  owner_is r (suc k) q h one = by_test (holds f k l)
      (λ e. if_true (holds f k l) (suc k) (owner_of f k l) e ∙ ap suc (one k e))
      (λ e. if_false (holds f k l) (suc k) (owner_of f k l) e
      ∙ owner_is r k (⊎_elim (λ s. s) (λ s. let z : r ≡ k = omega arith in untrue (sym h ∙ rw z e)) (lt_or_le r k)) h one)

  -- somebody who holds it is its owner, and the other way round
  pub owner_some : (n x : ℕ) → owner_of f n l ≡ suc x → (x < n) × (holds f x l ≡ true)
  unfolding owner_of
  owner_some zero x e = absurd (omega arith)
  owner_some (suc k) x e = by_test (holds f k l)
      (λ t. let q : k ≡ x = omega (arith, if_true (holds f k l) (suc k) (owner_of f k l) t) in (omega arith, rw (← q) t))
      (λ t. let (a, b) = owner_some k x (sym (if_false (holds f k l) (suc k) (owner_of f k l) t) ∙ e) in (omega arith, b))

-- a list is the kept priorities where r runs, if it is 0 at r and the ranks elsewhere
kept_by_lem : (p : Plan) (f : Figures) (kept : List ℕ) (r : ℕ) → at kept r ≡ 0 → ((x : ℕ) → x ≢ r → at kept x ≡ rank_of p f x) → (x : ℕ) → at kept x ≡ kept_of p f r x
kept_by_lem p f kept r h k = at_or (λ x. at kept x ≡ kept_of p f r x) r (h ∙ sym (kept_own p f r)) (λ x n. k x n ∙ sym (kept_other p f r x n))

-- ---- the switch

module _ (pr : Protocol) {p : Plan} (O : Obeys p) {g : Figures} (G : SoundFigures p g) where
  rank_some : (x : ℕ) → 0 < at g.released x → 0 < rank_of p g x
  rank_some x o = omega (arith, rank_out p g x o, base_priority p g x, base_some O x (SoundFigures.inside G x o))

  -- the second word after an entry to the kernel is sound
  next_by : (user : ℕ) (kept : List ℕ) (r : ℕ) → ((x : ℕ) → at kept x ≡ kept_of p g r x)
      → SoundSecond pr (second_word pr user (best_kept kept p.tasks)) user (greatest (kept_of p g r) p.tasks)
  next_by user kept r k = entry_sound pr user (best_kept kept p.tasks) (greatest (kept_of p g r) p.tasks)
      (greatest_ext (at kept) (kept_of p g r) p.tasks (λ x l. k x))

  switch_worded : (w : Words) (kept : List ℕ) → ((x : ℕ) → at kept x ≡ rank_of p g x) → ((x : ℕ) → at w.saved x ≡ saved_of p g x)
      → ((l : ℕ) → at w.owner l ≡ owner_of g p.tasks l) → w.lazy ≤ g.accepted → SoundWords pr p g (switched pr p.tasks g.released kept w)
  unfolding switched runs_on
  switch_worded w kept k sv ow lz = record {
    idle = λ e x. ⊎_elim (λ z. z) (λ o. absurd (elected_one (at g.released) (at kept) p.tasks few x (SoundFigures.inside G x o)
        (omega (arith, k x, rank_some x o)) e)) (eq-zero-or-pos (at g.released x));
    runs = λ n. out n;
    user = k q;
    next = next_by (at kept q) (set kept q 0) q kq;
    kept = kq;
    saved = sv;
    owner = ow;
    lazy = lz;
  }
    where
      few : p.tasks ≤ nobody
      few = omega (arith, few_tasks O)

      q : ℕ
      q = elected (at g.released) (at kept) p.tasks

      kq : (x : ℕ) → at (set kept q 0) x ≡ kept_of p g q x
      kq = kept_by_lem p g (set kept q 0) q (cleared kept q) (λ x n. get_or-set_other kept q x 0 0 n ∙ k x)

      out : q ≢ nobody → 0 < at g.released q
      out n =
          let h : 0 < greatest (at kept) p.tasks = elected_some (at g.released) (at kept) p.tasks few n in
          let e : at kept q ≡ greatest (at kept) p.tasks = (elected_lead (at g.released) (at kept) p.tasks few h).keyed in
          ⊎_elim (λ z. absurd (omega (arith, k q, rank_in p g q z))) (λ o. o) (eq-zero-or-pos (at g.released q))

-- ---- each event

-- where the lazy scheduler may accept an event
pub record Scene (pr : Protocol) (p : Plan) (f : Figures) (w : Words) : Type 0 where
  pub stage : SoundFigures.Stage p f
  pub sized : WordsSized w
  pub worded : SoundWords pr p f w

module _ {pr : Protocol} {p : Plan} {f : Figures} {w : Words} (B : Scene pr p f w) where
  abbrev A : SoundFigures.Stage p f
  A = B.stage

  abbrev O : Obeys p
  O = A.plan

  abbrev F : SoundFigures p f
  F = A.figured

  abbrev Y : WordsSized w
  Y = B.sized

  abbrev W : SoundWords pr p f w
  W = B.worded

  abbrev r : ℕ
  r = w.running

  -- an entry to the kernel cuts nothing
  found : entering p.maximum w ≡ w
  found = enters_same O F W

  -- the running task is a task of the plan, or nobody
  pub running_place : r ≢ nobody → r < p.tasks
  running_place n = SoundFigures.inside F r (W.runs n)

  no_place : max_tasks ≤ r → r ≡ nobody
  no_place h = go (ℕ_discrete r nobody)
    where
      go : Dec (r ≡ nobody) → r ≡ nobody
      go (yes e) = e
      go (no n) = absurd (omega (arith, running_place n, few_tasks O))

  pub kept_rank : (x : ℕ) → x ≢ r → at w.kept x ≡ rank_of p f x
  kept_rank x n = W.kept x ∙ kept_other p f r x n

  own_zero : at w.kept r ≡ 0
  own_zero = W.kept r ∙ kept_own p f r

  -- somebody runs, by its priority the user word
  pub user_priority : r ≢ nobody → w.user ≡ priority_of p f r
  user_priority n = W.user ∙ rank_out p f r (W.runs n)

  -- nobody's word is 0
  pub nobody_user : r ≡ nobody → w.user ≡ 0
  nobody_user e = W.user ∙ rank_in p f r (W.idle e r)

  module _ {t : ℕ} (o : Releasable p f t) where
    pub r_t : r ≢ t
    r_t e = go (ℕ_discrete r nobody)
      where
        go : Dec (r ≡ nobody) → ⊥
        go (yes q) = omega (arith, o.known, few_tasks O)
        go (no n) = omega (arith, W.runs n, o.resting, ap (at f.released) e)

    pub release_same : (x : ℕ) → x ≢ t → Same f (figures_after p f r (Release t)) x
    unfolding figures_after
    release_same x n = record { released = SoundFigures.release_others A o r x n; depth = refl; takes = refl }

    pub release_rank : rank_of p (figures_after p f r (Release t)) t ≡ at p.base t
    unfolding figures_after
    release_rank =
        rank_out p g t (omega (arith, SoundFigures.release_number A o r)) ∙ plain_priority p g t (F.resting t o.resting)
      where
        g : Figures
        g = figures_after p f r (Release t)

    newcomer : List ℕ
    newcomer = set w.kept t (at p.base t)

    newcomer_rank : (x : ℕ) → x ≢ r → at newcomer x ≡ rank_of p (figures_after p f r (Release t)) x
    unfolding newcomer
    newcomer_rank = at_or (λ x. x ≢ r → at newcomer x ≡ rank_of p g x) t
        (λ n. get_or-set_same w.kept t (at p.base t) 0 (omega (arith, SoundFigures.t_place A o, Y.kept)) ∙ sym release_rank)
        (λ x n m. get_or-set_other w.kept t x (at p.base t) 0 n ∙ kept_rank x m ∙ sym (same_rank p (release_same x n)))
      where
        g : Figures
        g = figures_after p f r (Release t)

    user_rank : w.user ≡ rank_of p (figures_after p f r (Release t)) r
    user_rank = W.user ∙ sym (same_rank p (release_same r r_t))

    -- the kept priorities at a switch, the leaving task's among them, are the ranks
    pub release_kept : (x : ℕ) → at (set (set w.kept t (at p.base t)) r w.user) x ≡ rank_of p (figures_after p f r (Release t)) x
    unfolding newcomer
    release_kept = at_or (λ x. at (set newcomer r w.user) x ≡ rank_of p (figures_after p f r (Release t)) x) r
        (written newcomer r w.user (λ l. nobody_user (no_place (omega (arith, length-set w.kept t (at p.base t), Y.kept)))) ∙ user_rank)
        (λ x n. get_or-set_other newcomer r x w.user 0 n ∙ newcomer_rank x n)

    release_worded : SoundFigures p (figures_after p f r (Release t)) → SoundWords pr p (figures_after p f r (Release t))
        (words_after pr p f (figures_after p f r (Release t)).released w (Release t))
    unfolding words_after after_release figures_after saved_of owner_of holds newcomer stays
    release_worded G = rw found (by_test (ltb w.user (at p.base t))
        (λ e. subst (SoundWords pr p g) (sym (if_true (ltb w.user (at p.base t)) _ _ e))
        (switch_worded pr O G w (set newcomer r w.user) release_kept W.saved owns (omega (arith, W.lazy))))
        (λ e. subst (SoundWords pr p g) (sym (if_false (ltb w.user (at p.base t)) _ _ e)) (record {
          idle = λ q. absurd (omega (arith, ltb-false w.user (at p.base t) e, nobody_user q, base_some O t o.known));
          runs = λ n. omega (arith, W.runs n, (release_same r r_t).released);
          user = user_rank;
          next = next_by pr O G w.user newcomer r stay;
          kept = stay;
          saved = W.saved;
          owner = owns;
          lazy = omega (arith, W.lazy);
        })))
      where
        g : Figures
        g = figures_after p f r (Release t)

        owns : (l : ℕ) → at w.owner l ≡ owner_of g p.tasks l
        owns l = W.owner l ∙ sym (owner_same f g l p.tasks (λ x q. refl))

        stay : (x : ℕ) → at newcomer x ≡ kept_of p g r x
        stay = kept_by_lem p g newcomer r (get_or-set_other w.kept t r (at p.base t) 0 r_t ∙ own_zero) newcomer_rank

  pub finish_kept : (x : ℕ) → at (set w.kept r 0) x ≡ rank_of p (figures_after p f r Finish) x
  unfolding figures_after
  finish_kept = at_or (λ x. at (set w.kept r 0) x ≡ rank_of p g x) r
      (cleared w.kept r ∙ sym (rank_in p g r (cleared f.released r)))
      (λ x n. get_or-set_other w.kept r x 0 0 n ∙ kept_rank x n ∙ sym (same_rank p (same x n)))
    where
      g : Figures
      g = figures_after p f r Finish

      same : (x : ℕ) → x ≢ r → Same f g x
      same x n = record { released = get_or-set_other f.released r x 0 0 n; depth = refl; takes = refl }

  finish_worded : Finishable f r → SoundFigures p (figures_after p f r Finish)
      → SoundWords pr p (figures_after p f r Finish) (words_after pr p f (figures_after p f r Finish).released w Finish)
  unfolding words_after figures_after saved_of owner_of holds
  finish_worded o G = rw found (switch_worded pr O G w (set w.kept r 0) finish_kept W.saved
      (λ l. W.owner l ∙ sym (owner_same f g l p.tasks (λ x q. refl))) (omega (arith, W.lazy)))
    where
      g : Figures
      g = figures_after p f r Finish

  -- the second word stays sound where no entry sets it and the others' priorities stay
  same_next : (g : Figures) (user : ℕ) → (w.next ≤ w.user → w.next ≤ user) → ((x : ℕ) → at w.kept x ≡ kept_of p g r x)
      → SoundSecond pr w.next user (greatest (kept_of p g r) p.tasks)
  same_next g user h k = stays_sound pr w.next w.user user (greatest (kept_of p f r) p.tasks) (greatest (kept_of p g r) p.tasks) h
      (greatest_ext (kept_of p f r) (kept_of p g r) p.tasks (λ x q. sym (W.kept x) ∙ k x)) W.next

  -- work and tick change nothing that the other words go by
  still : (g : Figures) → ((x : ℕ) → Same f g x) → f.accepted ≤ g.accepted → SoundWords pr p g w
  still g same h = record {
    idle = λ e x. (same x).released ∙ W.idle e x;
    runs = λ n. omega (arith, W.runs n, (same r).released);
    user = W.user ∙ sym (same_rank p (same r));
    next = same_next g w.user (λ h. h) kg;
    kept = kg;
    saved = λ x. W.saved x ∙ sym (same_saved p (same x));
    owner = λ l. W.owner l ∙ sym (owner_same f g l p.tasks (λ x q. same_holds (same x) l));
    lazy = omega (arith, W.lazy);
  }
    where
      kg : (x : ℕ) → at w.kept x ≡ kept_of p g r x
      kg = kept_by_lem p g w.kept r own_zero (λ x n. kept_rank x n ∙ sym (same_rank p (same x)))

  work_worded : (a : ℕ) → SoundWords pr p (figures_after p f r (Work a)) w
  unfolding figures_after
  work_worded a = still (figures_after p f r (Work a)) (λ x. record { released = refl; depth = refl; takes = refl }) (omega arith)

  tick_worded : SoundFigures p (figures_after p f r Tick)
      → SoundWords pr p (figures_after p f r Tick) (words_after pr p f (figures_after p f r Tick).released w Tick)
  unfolding words_after stays figures_after
  tick_worded G =
      let U : SoundWords pr p (figures_after p f r Tick) w =
      still (figures_after p f r Tick) (λ x. record { released = refl; depth = refl; takes = refl }) (omega arith) in
      rw found (record {
        idle = U.idle;
        runs = U.runs;
        user = U.user;
        next = next_by pr O G w.user w.kept r U.kept;
        kept = U.kept;
        saved = U.saved;
        owner = U.owner;
        lazy = U.lazy;
      })

  -- ---- acquire and unlock: the running task's row changes, and nobody else's

  module _ (n : r ≢ nobody) where
    out : 0 < at f.released r
    out = W.runs n

    r_place : r < max_tasks
    r_place = omega (arith, running_place n, few_tasks O)

    saved_r : at w.saved r ≡ saves (at p.ceiling) (at p.base r) (at f.takes r) (at f.depth r)
    unfolding saved_of
    saved_r = W.saved r

    module _ {l : ℕ} (o : Takeable p f r l) where
      abbrev take : Figures
      take = figures_after p f r (Acquire l)

      lock_byte : l < 256
      lock_byte = omega (arith, few_locks O, o.known)

      pub take_same : (x : ℕ) → x ≢ r → Same f take x
      unfolding figures_after
      take_same x m = record { released = refl; depth = SoundFigures.take_helds A out o x m; takes = SoundFigures.take_rows A out o x m }

      pub take_priority : priority_of p take r ≡ max (at p.ceiling l) (priority_of p f r)
      unfolding priority_of
      take_priority =
          ap₂ (priority (at p.ceiling) (at p.base r)) (SoundFigures.take_row A out o) (SoundFigures.take_depth A out o)
          ∙ priority_pushed (at p.ceiling) (at p.base r) (at f.takes r) (at f.depth r) l lock_byte

      -- the eager calls of an acquire, by the user word before and after it
      pub take_calls : take.eager ≡ f.eager + differs w.user (max w.user (at p.ceiling l))
      unfolding eager_calls
      take_calls =
          SoundFigures.calls_moved p f r (Acquire l)
          ∙ ap (λ n. f.eager + n) (ap₂ differs (sym (user_priority n)) (omega (arith, take_priority, user_priority n)))

      take_saved : saved_of p take r ≡ pushed (at w.saved r) w.user
      unfolding saved_of priority_of
      take_saved =
          ap₂ (saves (at p.ceiling) (at p.base r)) (SoundFigures.take_row A out o) (SoundFigures.take_depth A out o)
          ∙ saves_pushed (at p.ceiling) (at p.base r) (at f.takes r) (at f.depth r) l lock_byte
          ∙ ap₂ pushed (sym saved_r) (sym (user_priority n))

      take_worded : SoundFigures p take → SoundWords pr p take (words_after pr p f take.released w (Acquire l))
      unfolding words_after after_acquire figures_after
      take_worded G = record {
        idle = W.idle;
        runs = W.runs;
        user = omega (arith, user_priority n, take_priority, rank_out p take r out);
        next = same_next take (max w.user (at p.ceiling l)) (λ h. omega arith) same_kept;
        kept = same_kept;
        saved = at_or (λ x. at (set w.saved r (pushed (at w.saved r) w.user)) x ≡ saved_of p take x) r
            (get_or-set_same w.saved r (pushed (at w.saved r) w.user) 0 (omega (arith, r_place, Y.saved)) ∙ sym take_saved)
            (λ x m. get_or-set_other w.saved r x (pushed (at w.saved r) w.user) 0 m ∙ W.saved x ∙ sym (same_saved p (take_same x m)));
        owner = at_or (λ v. at (set w.owner l (r + 1)) v ≡ owner_of take p.tasks v) l
            (get_or-set_same w.owner l (r + 1) 0 (omega (arith, Y.owner, few_locks O, o.known)) ∙ add-one r
            ∙ sym (owner_is take l r p.tasks (running_place n) mine (λ y h. G.alone y r l h mine)))
            (λ v m. get_or-set_other w.owner l v (r + 1) 0 m ∙ W.owner v ∙ sym (owner_same f take v p.tasks (λ x q. others v m x)));
        lazy = omega (arith, W.lazy);
      }
        where
          same_kept : (x : ℕ) → at w.kept x ≡ kept_of p take r x
          same_kept = kept_by_lem p take w.kept r own_zero (λ x m. kept_rank x m ∙ sym (same_rank p (take_same x m)))

          mine : holds take r l ≡ true
          mine = SoundFigures.take_holds A out o l ∙ ap (λ t. t || holds f r l) (eq-eqb l l refl)

          others : (v : ℕ) → v ≢ l → (x : ℕ) → holds take x v ≡ holds f x v
          others v m = at_or (λ x. holds take x v ≡ holds f x v) r
              (SoundFigures.take_holds A out o v ∙ ap (λ t. t || holds f r v) (ne_eqb l v (λ e. m (sym e))))
              (λ x k. SoundFigures.take_others A out o x v k)

    module _ {l : ℕ} (o : Givable p f r l) where
      abbrev give : Figures
      give = figures_after p f r (Unlock l)

      less : ℕ
      less = SoundFigures.less A out o

      pub give_same : (x : ℕ) → x ≢ r → Same f give x
      unfolding figures_after
      give_same x m = record { released = refl; depth = SoundFigures.give_helds A out o x m; takes = SoundFigures.give_rows A out o x m }

      saved_more : at w.saved r ≡ saves (at p.ceiling) (at p.base r) (at f.takes r) (suc less)
      unfolding less
      saved_more = saved_r ∙ ap (saves (at p.ceiling) (at p.base r) (at f.takes r)) (SoundFigures.give_was A out o)

      -- the word that is put back is the priority under the newest take
      pub give_priority : back_of w ≡ priority_of p give r
      unfolding priority_of less
      give_priority =
          ap newest saved_more ∙ saves_newest (at p.ceiling) (at p.base r) (base_byte O r) (ceiling_byte O) (at f.takes r) less
          ∙ sym (ap₂ (priority (at p.ceiling) (at p.base r)) (SoundFigures.give_row A out o) (SoundFigures.give_depth A out o))

      -- the eager calls of an unlock, by the user word before it and the one that is put back
      pub give_calls : give.eager ≡ f.eager + differs w.user (back_of w)
      unfolding eager_calls
      give_calls =
          SoundFigures.calls_moved p f r (Unlock l) ∙ ap (λ n. f.eager + n) (ap₂ differs (sym (user_priority n)) (sym give_priority))

      give_saved : under (at w.saved r) ≡ saved_of p give r
      unfolding saved_of less
      give_saved =
          ap under saved_more ∙ saves_under (at p.ceiling) (at p.base r) (base_byte O r) (ceiling_byte O) (at f.takes r) less
          ∙ sym (ap₂ (saves (at p.ceiling) (at p.base r)) (SoundFigures.give_row A out o) (SoundFigures.give_depth A out o))

      -- who has the lock open is who had it, where it stays open, and else nobody
      same_owner : stays_open f r l ≡ true → (x : ℕ) → holds give x l ≡ holds f x l
      same_owner e = at_or (λ x. holds give x l ≡ holds f x l) r (SoundFigures.give_stays A out o ∙ e ∙ sym (SoundFigures.give_mine A out o))
          (λ x m. SoundFigures.give_others A out o x l m)

      nobodys : stays_open f r l ≡ false → (x : ℕ) → holds give x l ≡ false
      nobodys e = at_or (λ x. holds give x l ≡ false) r (SoundFigures.give_stays A out o ∙ e)
          (λ x m. SoundFigures.give_others A out o x l m ∙ not_so (holds f x l) (λ h. m (F.alone x r l h (SoundFigures.give_mine A out o))))

      others : (v : ℕ) → v ≢ l → (x : ℕ) → holds give x v ≡ holds f x v
      others v m = at_or (λ x. holds give x v ≡ holds f x v) r
          (sym (SoundFigures.give_holds A out o v ∙ ap (λ t. t || holds give r v) (ne_eqb l v (λ e. m (sym e)))))
          (λ x k. SoundFigures.give_others A out o x v k)

      saved_give : (x : ℕ) → at (set w.saved r (under (at w.saved r))) x ≡ saved_of p give x
      saved_give = at_or (λ x. at (set w.saved r (under (at w.saved r))) x ≡ saved_of p give x) r
          (get_or-set_same w.saved r (under (at w.saved r)) 0 (omega (arith, r_place, Y.saved)) ∙ give_saved)
          (λ x m. get_or-set_other w.saved r x (under (at w.saved r)) 0 m ∙ W.saved x ∙ sym (same_saved p (give_same x m)))

      -- the owner that is left
      left : ℕ
      left = left_of (stays_open f r l) (at w.owner l)

      left_owner : left ≡ owner_of give p.tasks l
      unfolding left
      left_owner = by_test (stays_open f r l)
          (λ e. left_same (stays_open f r l) (at w.owner l) e ∙ W.owner l ∙ sym (owner_same f give l p.tasks (λ x q. same_owner e x)))
          (λ e. left_none (stays_open f r l) (at w.owner l) e ∙ sym (owner_none give l p.tasks (λ x q. nobodys e x)))

      owner_give : (v : ℕ) → at (set w.owner l (left_of (stays_open f r l) (at w.owner l))) v ≡ owner_of give p.tasks v
      unfolding left
      owner_give = at_or (λ v. at (set w.owner l left) v ≡ owner_of give p.tasks v) l
          (get_or-set_same w.owner l left 0 (omega (arith, Y.owner, few_locks O, o.known)) ∙ left_owner)
          (λ v m. get_or-set_other w.owner l v left 0 m ∙ W.owner v ∙ sym (owner_same f give v p.tasks (λ x q. others v m x)))

      back_rank : back_of w ≡ rank_of p give r
      unfolding figures_after
      back_rank = give_priority ∙ sym (rank_out p give r out)

      kept_give : (x : ℕ) → x ≢ r → at w.kept x ≡ rank_of p give x
      kept_give x m = kept_rank x m ∙ sym (same_rank p (give_same x m))

      pub give_kept : (x : ℕ) → at (set w.kept r (back_of w)) x ≡ rank_of p give x
      give_kept = at_or (λ x. at (set w.kept r (back_of w)) x ≡ rank_of p give x) r
          (get_or-set_same w.kept r (back_of w) 0 (omega (arith, r_place, Y.kept)) ∙ back_rank)
          (λ x m. get_or-set_other w.kept r x (back_of w) 0 m ∙ kept_give x m)

      give_worded : SoundFigures p give → SoundWords pr p give (words_after pr p f give.released w (Unlock l))
      unfolding words_after after_unlock leaves restored figures_after
      give_worded G = rw (calls_same O F W (stays_open f r l) l 1) (by_test (calls_for (back_of w) w.next)
          (λ e. subst (SoundWords pr p give) (sym (if_true (calls_for (back_of w) w.next) _ _ e))
          (switch_worded pr O G (restored (stays_open f r l) l 1 w) (set w.kept r (back_of w)) give_kept saved_give owner_give (omega (arith, W.lazy))))
          (λ e. subst (SoundWords pr p give) (sym (if_false (calls_for (back_of w) w.next) _ _ e)) (record {
            idle = W.idle;
            runs = W.runs;
            user = back_rank;
            next = same_next give (back_of w) (λ h. no_call (back_of w) w.next e) stay;
            kept = stay;
            saved = saved_give;
            owner = owner_give;
            lazy = omega (arith, W.lazy);
          })))
        where
          stay : (x : ℕ) → at w.kept x ≡ kept_of p give r x
          stay = kept_by_lem p give w.kept r own_zero kept_give

  pub worded_kept : (e : Event) → Allowed p f r e → SoundFigures p (figures_after p f r e)
      → SoundWords pr p (figures_after p f r e) (words_after pr p f (figures_after p f r e).released w e)
  unfolding words_after
  worded_kept (Release t) o G = release_worded o G
  worded_kept (Acquire l) o G = take_worded o.runs o G
  worded_kept (Unlock l) o G = give_worded o.runs o G
  worded_kept (Work a) o G = work_worded a
  worded_kept Finish o G = finish_worded o G
  worded_kept Tick o G = tick_worded G
