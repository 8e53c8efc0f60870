-- The test of soundness holds exactly where every named condition of Sound.antt does. Assumes nothing.
use mathlib.Core.Path.{◌≡◌, refl, sym, ◌∙◌, ap, subst}
use mathlib.Core.Logic.{◌≢◌, ⊎_elim, ◌↔◌}
use mathlib.Core.Bool.{Bool, true, false, not, ◌&&◌}
use mathlib.Core.List.{List}
use Prim.Native.Nat.{ℕ, zero, suc, ◌≤◌, ◌<◌, ◌^◌}
use native.Mathlib.Numerals.{add-one}
use native.Mathlib.Omega.{arith}
use lib.Dec.{eqb, ltb}
use borrow.Author.Tests.{eqb-true, eqb-false, leb-true, ltb-true, eq-eqb, ne_eqb, le-leb, lt-ltb, not-true}
use Rattle.rules.specs.Numbers.Capacity.{max_takes, max_accepted, max_delay, nobody}
use Rattle.rules.specs.Numbers.Place.{at, every, greatest}
use Rattle.rules.specs.Numbers.Row.{newest, under, has, saves}
use Rattle.rules.specs.Books.Plan.{count_fault, task_fault, lock_fault, ceiling_fault, maximum_fault, above_fault, declares, Obeys}
use Rattle.rules.specs.Schedulers.Figures.{Figures, figures_of, holds, rank_of}
use Rattle.rules.specs.Schedulers.Lazy.{Words, words_of}
use Rattle.rules.specs.Soundness.Sound.{SoundFigures, kept_of, saved_of, owner_of, SoundSecond, SoundWords, Sound}
use Rattle.rules.specs.Soundness.SoundTest.{task_obeys, lock_obeys, spare_obeys, obeys, row_test, own_test, number_new}
use Rattle.rules.specs.Soundness.SoundTest.{number_test, task_test, lock_test, runs_test, second_test, head_test, spare_test, sound_test}
use Rattle.rules.specs.declared.plan.Plan.{Plan}
use Rattle.rules.specs.declared.protocol.Protocol.{Protocol}
use Rattle.rules.specs.declared.protocol.Protocol.TheVariants.{Second, First}
use Rattle.rules.specs.declared.state.State.{State}
use Rattle.rules.proofs.Numbers.Choice.{if_true, if_false, by_test, untrue, not_so, and_true, true_and, at_or, lt_or_le, Each, all_so, so_all}
use Rattle.rules.proofs.Numbers.Place.{every_true, true_every, any_false, false_any, spare_at, at_spare}
use Rattle.rules.proofs.Numbers.Row.{has_none, has_newest, has_under, has_cases, places_under, saves_none}
use Rattle.rules.proofs.Schedulers.FiguresKept.{inside, holder_out}
use Rattle.rules.proofs.Schedulers.WordsKept.{owner_none, owner_is}
use Rattle.rules.proofs.Schedulers.Rules.{rank_in, kept_own, kept_other}

false_not : (t : Bool) → t ≡ false → not t ≡ true
false_not t e = ap not e

-- ---- the plan

module _ (p : Plan) where
  abbrev Task : ℕ → Type 0
  Task t =
      (not (task_fault (at p.base t) (at p.maximum t)) ≡ true) × (ltb (at p.base t) (2 ^ 8) ≡ true) × (ltb (at p.maximum t) (2 ^ 8) ≡ true)
      × (ltb (at p.uses t) (2 ^ p.locks) ≡ true)

  task_parts : (t : ℕ) → task_obeys p t ≡ true → Task t
  unfolding task_obeys Each
  task_parts t e = let (a, (b, (c, (d, _)))) = all_so _ e in (a, b, c, d)

  abbrev Lock : ℕ → Type 0
  Lock l =
      (not (lock_fault (at p.ceiling l) 0 (at p.limit l)) ≡ true) × (ltb (at p.ceiling l) (2 ^ 8) ≡ true) × (ltb (at p.limit l) (2 ^ 16) ≡ true)
      × (not (ceiling_fault p l) ≡ true) × (not (above_fault p l) ≡ true)

  lock_parts : (l : ℕ) → lock_obeys p l ≡ true → Lock l
  unfolding lock_obeys Each
  lock_parts l e = let (a, (b, (c, (d, (g, _))))) = all_so _ e in (a, b, c, d, g)

  -- 24 of a lock, and of each task that may take it
  above_so : (t l : ℕ) → t < p.tasks → declares p t l ≡ true → above_fault p l ≡ false → maximum_fault (at p.maximum t) (at p.ceiling l) ≡ false
  unfolding above_fault
  above_so t l h d e = not_so (maximum_fault (at p.maximum t) (at p.ceiling l)) (λ q. untrue
      (sym (true_and (declares p t l) _ d q) ∙ any_false (λ x. declares p x l && maximum_fault (at p.maximum x) (at p.ceiling l)) p.tasks e t h))

  so_above : (l : ℕ) → ((t : ℕ) → t < p.tasks → declares p t l ≡ true → maximum_fault (at p.maximum t) (at p.ceiling l) ≡ false) → above_fault p l ≡ false
  unfolding above_fault
  so_above l h = false_any _ p.tasks (λ t k. not_so (declares p t l && maximum_fault (at p.maximum t) (at p.ceiling l))
      (λ q. let (d, e) = and_true (declares p t l) _ q in untrue (sym e ∙ h t k d)))

  pub obeys_so : obeys p ≡ true → Obeys p
  unfolding obeys spare_obeys Each
  obeys_so e =
      let (a, (b, (tasks, (locks, (spare, _))))) = all_so _ e in
      let (noBase, (noMaximum, (noUses, (noCeiling, (noLimit, _))))) = all_so _ spare in
      record {
        tasks = not-true (count_fault 0 p.tasks) a;
        locks = not-true (count_fault 1 p.locks) b;
        bases = λ t h. not-true (task_fault (at p.base t) (at p.maximum t)) (task tasks t h).0;
        base_bytes = λ t. ⊎_elim (λ h. ltb-true (at p.base t) (2 ^ 8) (task tasks t h).1) (λ h. omega (arith, spare_at p.tasks p.base noBase t h))
            (lt_or_le t p.tasks);
        maximum_bytes = λ t. ⊎_elim (λ h. ltb-true (at p.maximum t) (2 ^ 8) (task tasks t h).2)
            (λ h. omega (arith, spare_at p.tasks p.maximum noMaximum t h)) (lt_or_le t p.tasks);
        sections = λ l h. not-true (lock_fault (at p.ceiling l) 0 (at p.limit l)) (lock locks l h).0;
        ceiling_bytes = λ l. ⊎_elim (λ h. ltb-true (at p.ceiling l) (2 ^ 8) (lock locks l h).1)
            (λ h. omega (arith, spare_at p.locks p.ceiling noCeiling l h)) (lt_or_le l p.locks);
        limit_bytes = λ l. ⊎_elim (λ h. ltb-true (at p.limit l) (2 ^ 16) (lock locks l h).2) (λ h. omega (arith, spare_at p.locks p.limit noLimit l h))
            (lt_or_le l p.locks);
        uses = λ t h. ltb-true (at p.uses t) (2 ^ p.locks) (task tasks t h).3;
        ceilings = λ l h. not-true (ceiling_fault p l) (lock locks l h).3;
        maxima = λ t l h k d. above_so t l h d (not-true (above_fault p l) (lock locks l k).4);
        no_task = λ t h. (
          spare_at p.tasks p.base noBase t h,
          spare_at p.tasks p.maximum noMaximum t h,
          spare_at p.tasks p.uses noUses t h,
        );
        no_lock = λ l h. (spare_at p.locks p.ceiling noCeiling l h, spare_at p.locks p.limit noLimit l h);
      }
    where
      task : every (task_obeys p) p.tasks ≡ true → (t : ℕ) → t < p.tasks → Task t
      task e t h = task_parts t (every_true (task_obeys p) p.tasks e t h)

      lock : every (lock_obeys p) p.locks ≡ true → (l : ℕ) → l < p.locks → Lock l
      lock e l h = lock_parts l (every_true (lock_obeys p) p.locks e l h)

  pub so_obeys : Obeys p → obeys p ≡ true
  unfolding obeys task_obeys lock_obeys spare_obeys Each
  so_obeys O = so_all _ (
    false_not _ O.tasks,
    (
      false_not _ O.locks,
      (
        true_every (task_obeys p) p.tasks (λ t h. so_all _ (
          false_not _ (O.bases t h),
          (lt-ltb _ _ (O.base_bytes t), (lt-ltb _ _ (O.maximum_bytes t), (lt-ltb _ _ (O.uses t h), tt))),
        )),
        (
          true_every (lock_obeys p) p.locks (λ l h. so_all _ (
            false_not _ (O.sections l h),
            (
              lt-ltb _ _ (O.ceiling_bytes l),
              (lt-ltb _ _ (O.limit_bytes l), (false_not _ (O.ceilings l h), (false_not _ (so_above l (λ t k d. O.maxima t l k h d)), tt))),
            ),
          )),
          (
            so_all _ (
              at_spare p.tasks p.base (λ t h. (O.no_task t h).0),
              (
                at_spare p.tasks p.maximum (λ t h. (O.no_task t h).1),
                (
                  at_spare p.tasks p.uses (λ t h. (O.no_task t h).2),
                  (at_spare p.locks p.ceiling (λ l h. (O.no_lock l h).0), (at_spare p.locks p.limit (λ l h. (O.no_lock l h).1), tt)),
                ),
              ),
            ),
            tt,
          ),
        ),
      ),
    ),
  )

-- ---- a row

module _ (p : Plan) (x : ℕ) where
  pub record RowOk (row k : ℕ) : Type 0 where
    pub known : (l : ℕ) → has row k l ≡ true → l < p.locks
    pub declared : (l : ℕ) → has row k l ≡ true → declares p x l ≡ true
    pub places : row < 256 ^ k

  -- the newest is right, and so is the rest
  row_more : (row k : ℕ) → RowOk (under row) k → newest row < p.locks → declares p x (newest row) ≡ true → RowOk row (suc k)
  row_more row k R a b = record {
    known = λ l h. ⊎_elim (λ q. omega (arith, a)) (λ q. R.known l q) (has_cases row k l h);
    declared = λ l h. ⊎_elim (λ q. subst (λ l. declares p x l ≡ true) q b) (λ q. R.declared l q) (has_cases row k l h);
    places = omega (arith, R.places);
  }

  row_so : (row k : ℕ) → row_test p.locks (at p.uses x) row k ≡ true → RowOk row k
  unfolding row_test declares Each
  row_so row zero e = record {
    known = λ l h. untrue (sym h ∙ has_none row l);
    declared = λ l h. untrue (sym h ∙ has_none row l);
    places = omega (arith, eqb-true row 0 e);
  }
  row_so row (suc k) e = let (a, (b, (c, _))) = all_so _ e in row_more row k (row_so (under row) k c) (ltb-true _ _ a) b

  so_row : (row k : ℕ) → RowOk row k → row_test p.locks (at p.uses x) row k ≡ true
  unfolding row_test declares Each
  so_row row zero R = eq-eqb row 0 (omega (arith, R.places))
  so_row row (suc k) R =
      so_all _ (
        lt-ltb _ _ (R.known (newest row) (has_newest row k)),
        (
          R.declared (newest row) (has_newest row k),
          (
            so_row (under row) k (record {
              known = λ l h. R.known l (has_under row k l h);
              declared = λ l h. R.declared l (has_under row k l h);
              places = places_under row k R.places;
            }),
            tt,
          ),
        ),
      )

module _ (owner : List ℕ) (x : ℕ) where
  own_so : (row k : ℕ) → own_test owner x row k ≡ true → (l : ℕ) → has row k l ≡ true → at owner l ≡ suc x
  unfolding own_test Each
  own_so row zero e l h = untrue (sym h ∙ has_none row l)
  own_so row (suc k) e l h =
      let (a, (b, _)) = all_so _ e in
      ⊎_elim (λ q. subst (λ l. at owner l ≡ suc x) q (eqb-true _ _ a ∙ add-one x)) (λ q. own_so (under row) k b l q) (has_cases row k l h)

  so_own : (row k : ℕ) → ((l : ℕ) → has row k l ≡ true → at owner l ≡ suc x) → own_test owner x row k ≡ true
  unfolding own_test Each
  so_own row zero h = refl
  so_own row (suc k) h = so_all _ (
    eq-eqb _ _ (h (newest row) (has_newest row k) ∙ sym (add-one x)),
    (so_own (under row) k (λ l q. h l (has_under row k l q)), tt),
  )

-- ---- release numbers

module _ (accepted : ℕ) (released : List ℕ) (depth x : ℕ) where
  number_so : number_test accepted released depth x ≡ true
      → (at released x ≡ 0 → depth ≡ 0) × (at released x ≤ accepted) × ((y : ℕ) → y < x → 0 < at released x → at released y ≢ at released x)
  unfolding number_test number_new Each
  number_so e = by_test (eqb (at released x) 0)
      (λ t. let z : at released x ≡ 0 = eqb-true _ 0 t in
      ((λ _. eqb-true _ 0 (sym (if_true (eqb (at released x) 0) _ _ t) ∙ e)), omega arith, λ y l o. absurd (omega arith)))
      (λ t. let (a, (b, _)) = all_so _ (sym (if_false (eqb (at released x) 0) _ _ t) ∙ e) in (
        (λ z. absurd (eqb-false _ 0 t z)),
        leb-true _ _ a,
        λ y l o. eqb-false _ _ (not-true _ (every_true (λ z. not (eqb (at released z) (at released x))) x b y l)),
      ))

  so_number : (at released x ≡ 0 → depth ≡ 0) → at released x ≤ accepted → ((y : ℕ) → y < x → 0 < at released x → at released y ≢ at released x)
      → number_test accepted released depth x ≡ true
  unfolding number_test number_new Each
  so_number a b c = by_test (eqb (at released x) 0)
      (λ t. if_true (eqb (at released x) 0) _ _ t ∙ eq-eqb _ 0 (a (eqb-true _ 0 t)))
      (λ t. if_false (eqb (at released x) 0) _ _ t
      ∙ so_all _ (
        le-leb _ _ b,
        (
          true_every (λ z. not (eqb (at released z) (at released x))) x
              (λ y l. false_not _ (ne_eqb _ _ (c y l (omega (arith, eqb-false (at released x) 0 t))))),
          tt,
        ),
      ))

-- ---- a task, a lock and the head, by name

module _ (p : Plan) (f : Figures) (w : Words) where
  record TaskOk (x : ℕ) : Type 0 where
    depth : at f.depth x ≤ max_takes
    row : RowOk p x (at f.takes x) (at f.depth x)
    own : (l : ℕ) → holds f x l ≡ true → at w.owner l ≡ suc x
    resting : at f.released x ≡ 0 → at f.depth x ≡ 0
    number : at f.released x ≤ f.accepted
    differ : (y : ℕ) → y < x → 0 < at f.released x → at f.released y ≢ at f.released x
    delay : at f.delay x ≤ max_delay
    kept : at w.kept x ≡ kept_of p f w.running x
    saved : at w.saved x ≡ saved_of p f x

  task_so : (x : ℕ) → task_test p f w x ≡ true → TaskOk x
  unfolding task_test holds Each
  task_so x e =
      let (h, (r, (o, (n, (d, (k, (s, _))))))) = all_so _ e in
      let (n0, n1, n2) = number_so f.accepted f.released (at f.depth x) x n in
      record {
        depth = leb-true _ _ h;
        row = row_so p x _ _ r;
        own = own_so w.owner x _ _ o;
        resting = n0;
        number = n1;
        differ = n2;
        delay = leb-true _ _ d;
        kept = eqb-true _ _ k;
        saved = eqb-true _ _ s;
      }

  so_task : (x : ℕ) → TaskOk x → task_test p f w x ≡ true
  unfolding task_test holds Each
  so_task x T = so_all _ (
    le-leb _ _ T.depth,
    (
      so_row p x _ _ T.row,
      (
        so_own w.owner x _ _ T.own,
        (
          so_number f.accepted f.released (at f.depth x) x T.resting T.number T.differ,
          (
            le-leb _ _ T.delay,
            (
              eq-eqb _ _ T.kept,
              (eq-eqb _ _ T.saved, tt),
            ),
          ),
        ),
      ),
    ),
  )

  lock_so : (l : ℕ) → lock_test p f w l ≡ true
      → (at w.owner l ≡ owner_of f p.tasks l) × (at f.units l ≤ at p.limit l) × (at w.owner l ≡ 0 → at f.units l ≡ 0)
  unfolding lock_test Each
  lock_so l e =
      let (a, (b, (c, _))) = all_so _ e in
      (eqb-true _ _ a, leb-true _ _ b, λ z. eqb-true _ 0 (sym (if_true (eqb (at w.owner l) 0) _ _ (eq-eqb _ 0 z)) ∙ c))

  so_lock : (l : ℕ) → at w.owner l ≡ owner_of f p.tasks l → at f.units l ≤ at p.limit l → (at w.owner l ≡ 0 → at f.units l ≡ 0)
      → lock_test p f w l ≡ true
  unfolding lock_test Each
  so_lock l a b c = so_all _ (
    eq-eqb _ _ a,
    (
      le-leb _ _ b,
      (
        by_test (eqb (at w.owner l) 0) (λ t. if_true (eqb (at w.owner l) 0) _ _ t ∙ eq-eqb _ 0 (c (eqb-true _ 0 t)))
            (λ t. if_false (eqb (at w.owner l) 0) _ _ t),
        tt,
      ),
    ),
  )

-- ---- the words

word_so : (pr : Protocol) (second user best : ℕ) → second_test pr second user best ≡ true → SoundSecond pr second user best
unfolding second_test SoundSecond
word_so Second second user best e = eqb-true second best e
word_so First second user best e = leb-true second user e

so_word : (pr : Protocol) (second user best : ℕ) → SoundSecond pr second user best → second_test pr second user best ≡ true
unfolding second_test SoundSecond
so_word Second second user best h = eq-eqb second best h
so_word First second user best h = le-leb second user h

module _ (pr : Protocol) (p : Plan) (f : Figures) (w : Words) where
  record HeadOk : Type 0 where
    events : f.accepted ≤ max_accepted
    eager : f.eager ≤ f.accepted
    lazy : w.lazy ≤ f.accepted
    idle : w.running ≡ nobody → (x : ℕ) → x < p.tasks → at f.released x ≡ 0
    runs : w.running ≢ nobody → (w.running < p.tasks) × (0 < at f.released w.running)
    user : w.user ≡ rank_of p f w.running
    next : SoundSecond pr w.next w.user (greatest (kept_of p f w.running) p.tasks)

  head_so : head_test pr p f w ≡ true → HeadOk
  unfolding head_test runs_test Each
  head_so e =
      let (a, (g, (l, (r, (u, (n, _)))))) = all_so _ e in
      record {
        events = leb-true _ _ a;
        eager = leb-true _ _ g;
        lazy = leb-true _ _ l;
        idle = λ z x h. eqb-true _ 0 (every_true (λ x. eqb (at f.released x) 0) p.tasks
            (sym (if_true (eqb w.running nobody) _ _ (eq-eqb _ _ z)) ∙ r) x h);
        runs = λ z. let (i, (o, _)) = all_so _ (sym (if_false (eqb w.running nobody) _ _ (ne_eqb _ _ z)) ∙ r) in (ltb-true _ _ i, ltb-true 0 _ o);
        user = eqb-true _ _ u;
        next = word_so pr w.next w.user (greatest (kept_of p f w.running) p.tasks) n;
      }

  so_head : HeadOk → head_test pr p f w ≡ true
  unfolding head_test runs_test Each
  so_head H = so_all _ (
    le-leb _ _ H.events,
    (
      le-leb _ _ H.eager,
      (
        le-leb _ _ H.lazy,
        (
          by_test (eqb w.running nobody)
              (λ t. if_true (eqb w.running nobody) _ _ t ∙ true_every (λ x. eqb (at f.released x) 0) p.tasks
              (λ x h. eq-eqb _ 0 (H.idle (eqb-true _ _ t) x h)))
              (λ t. let (i, o) = H.runs (eqb-false _ _ t) in if_false (eqb w.running nobody) _ _ t ∙ so_all _ (lt-ltb _ _ i, (lt-ltb 0 _ o, tt))),
          (
            eq-eqb _ _ H.user,
            (so_word pr w.next w.user (greatest (kept_of p f w.running) p.tasks) H.next, tt),
          ),
        ),
      ),
    ),
  )

-- ---- places past the last task and the last lock

record SpareOk (p : Plan) (s : State) : Type 0 where
  released : (x : ℕ) → p.tasks ≤ x → at s.released x ≡ 0
  kept : (x : ℕ) → p.tasks ≤ x → at s.kept x ≡ 0
  delay : (x : ℕ) → p.tasks ≤ x → at s.delay x ≡ 0
  depth : (x : ℕ) → p.tasks ≤ x → at s.depth x ≡ 0
  takes : (x : ℕ) → p.tasks ≤ x → at s.takes x ≡ 0
  saved : (x : ℕ) → p.tasks ≤ x → at s.saved x ≡ 0
  units : (l : ℕ) → p.locks ≤ l → at s.units l ≡ 0
  owner : (l : ℕ) → p.locks ≤ l → at s.owner l ≡ 0

module _ (p : Plan) (s : State) where
  spare_so : spare_test p s ≡ true → SpareOk p s
  unfolding spare_test Each
  spare_so e =
      let (r, (k, (d, (h, (l, (v, (u, (o, _)))))))) = all_so _ e in
      record {
        released = spare_at p.tasks s.released r;
        kept = spare_at p.tasks s.kept k;
        delay = spare_at p.tasks s.delay d;
        depth = spare_at p.tasks s.depth h;
        takes = spare_at p.tasks s.takes l;
        saved = spare_at p.tasks s.saved v;
        units = spare_at p.locks s.units u;
        owner = spare_at p.locks s.owner o;
      }

  so_spare : SpareOk p s → spare_test p s ≡ true
  unfolding spare_test Each
  so_spare S = so_all _ (
    at_spare _ _ S.released,
    (
      at_spare _ _ S.kept,
      (
        at_spare _ _ S.delay,
        (
          at_spare _ _ S.depth,
          (
            at_spare _ _ S.takes,
            (
              at_spare _ _ S.saved,
              (
                at_spare _ _ S.units,
                (at_spare _ _ S.owner, tt),
              ),
            ),
          ),
        ),
      ),
    ),
  )

-- without takes nothing is saved
pub unsaved_by : (p : Plan) (f : Figures) (x : ℕ) → at f.depth x ≡ 0 → saved_of p f x ≡ 0
unfolding saved_of
unsaved_by p f x z = ap (saves (at p.ceiling) (at p.base x) (at f.takes x)) z ∙ saves_none (at p.ceiling) (at p.base x) (at f.takes x)

-- ---- together

module _ (pr : Protocol) (p : Plan) (s : State) where
  abbrev f : Figures
  f = figures_of s

  abbrev w : Words
  w = words_of s

  abbrev n : ℕ
  n = p.tasks

  module _ (H : HeadOk pr p f w) (T : (x : ℕ) → x < n → TaskOk p f w x)
      (L : (l : ℕ) → l < p.locks → (at w.owner l ≡ owner_of f n l) × (at f.units l ≤ at p.limit l) × (at w.owner l ≡ 0 → at f.units l ≡ 0))
      (S : SpareOk p s) where
    -- of each task: one of the plan's, or all 0
    each : (P : ℕ → Type 0) → ((x : ℕ) → x < n → P x) → ((x : ℕ) → n ≤ x → P x) → (x : ℕ) → P x
    each P a b x = ⊎_elim (a x) (b x) (lt_or_le x n)

    none_depth : (x l : ℕ) → n ≤ x → holds f x l ≡ false
    unfolding holds
    none_depth x l h = ap (λ k. has (at f.takes x) k l) (S.depth x h) ∙ has_none (at f.takes x) l

    mine : (x l : ℕ) → holds f x l ≡ true → (x < n) × (at w.owner l ≡ suc x)
    mine x l h = ⊎_elim (λ q. (q, (T x q).own l h)) (λ q. untrue (sym h ∙ none_depth x l q)) (lt_or_le x n)

    known : (x l : ℕ) → holds f x l ≡ true → l < p.locks
    unfolding holds
    known x l h = (T x (mine x l h).0).row.known l h

    allowed : (x l : ℕ) → holds f x l ≡ true → declares p x l ≡ true
    unfolding holds
    allowed x l h = (T x (mine x l h).0).row.declared l h

    figured : SoundFigures p f
    figured = record {
      events = H.events;
      numbers = each (λ x. at f.released x ≤ f.accepted) (λ x h. (T x h).number) (λ x h. omega (arith, S.released x h));
      differ = λ x y o e. apart x y o e;
      eager = H.eager;
      depth = each (λ x. at f.depth x ≤ max_takes) (λ x h. (T x h).depth) (λ x h. omega (arith, S.depth x h));
      known = known;
      declared = allowed;
      resting = each (λ x. at f.released x ≡ 0 → at f.depth x ≡ 0) (λ x h. (T x h).resting) (λ x h z. S.depth x h);
      alone = λ x y l h k. omega (arith, (mine x l h).1, (mine y l k).1);
      limits = λ l. ⊎_elim (λ h. (L l h).1) (λ h. omega (arith, S.units l h)) (lt_or_le l p.locks);
      delays = each (λ x. at f.delay x ≤ max_delay) (λ x h. (T x h).delay) (λ x h. omega (arith, S.delay x h));
      closed = λ l h. ⊎_elim (λ q. (L l q).2 ((L l q).0 ∙ owner_none f l n (λ x i. h x))) (λ q. S.units l q) (lt_or_le l p.locks);
      places = each (λ x. at f.takes x < 256 ^ at f.depth x) (λ x h. (T x h).row.places) (λ x h. rw (S.takes x h, S.depth x h) (omega arith));
      no_task = λ x h. (S.released x h, S.delay x h);
    }
      where
        apart : (x y : ℕ) → 0 < at f.released x → at f.released x ≡ at f.released y → x ≡ y
        apart x y o e = ⊎_elim
            (λ hx. ⊎_elim
            (λ hy. ⊎_elim (λ l. absurd ((T y hy).differ x l (omega arith) e))
            (λ l. ⊎_elim (λ q. absurd ((T x hx).differ y q o (sym e))) (λ q. omega arith) (lt_or_le y x)) (lt_or_le x y))
            (λ hy. absurd (omega (arith, S.released y hy))) (lt_or_le y n))
            (λ hx. absurd (omega (arith, S.released x hx))) (lt_or_le x n)

    worded : SoundWords pr p f w
    worded = record {
      idle = λ e. each (λ x. at f.released x ≡ 0) (H.idle e) S.released;
      runs = λ e. (H.runs e).1;
      user = H.user;
      next = H.next;
      kept = each (λ x. at w.kept x ≡ kept_of p f w.running x) (λ x h. (T x h).kept)
          (λ x h. S.kept x h ∙ sym (at_or (λ x. at f.released x ≡ 0 → kept_of p f w.running x ≡ 0) w.running (λ _. kept_own p f w.running)
          (λ x m z. kept_other p f w.running x m ∙ rank_in p f x z) x (S.released x h)));
      saved = each (λ x. at w.saved x ≡ saved_of p f x) (λ x h. (T x h).saved) (λ x h. S.saved x h ∙ sym (unsaved_by p f x (S.depth x h)));
      owner = λ l. ⊎_elim (λ h. (L l h).0) (λ h. S.owner l h ∙ sym (owner_none f l n (λ x i. not_so (holds f x l) (λ k. omega (arith, known x l k)))))
          (lt_or_le l p.locks);
      lazy = H.lazy;
    }

  sound_so : sound_test pr p s ≡ true → Sound pr p s
  unfolding sound_test Each
  sound_so e =
      let (ob, (he, (ta, (lo, (sp, _))))) = all_so _ e in
      let H : HeadOk pr p f w = head_so pr p f w he in
      let T : (x : ℕ) → x < n → TaskOk p f w x = λ x h. task_so p f w x (every_true (task_test p f w) n ta x h) in
      let L : (l : ℕ) → l < p.locks → (at w.owner l ≡ owner_of f n l) × (at f.units l ≤ at p.limit l) × (at w.owner l ≡ 0 → at f.units l ≡ 0) =
      λ l h. lock_so p f w l (every_true (lock_test p f w) p.locks lo l h) in
      let S : SpareOk p s = spare_so p s sp in
      record { plan = obeys_so p ob; figures = figured H T L S; words = worded H T L S }

  module _ (X : Sound pr p s) where
    owned : (x l : ℕ) → holds f x l ≡ true → at w.owner l ≡ suc x
    owned x l h = X.words.owner l ∙ owner_is f l x n (inside X.figures x (holder_out X.figures x l h)) h (λ y k. X.figures.alone y x l k h)

    so_tasks : (x : ℕ) → x < n → TaskOk p f w x
    unfolding holds
    so_tasks x h = record {
      depth = X.figures.depth x;
      row = record { known = X.figures.known x; declared = X.figures.declared x; places = X.figures.places x };
      own = owned x;
      resting = X.figures.resting x;
      number = X.figures.numbers x;
      differ = λ y l o e. omega (arith, X.figures.differ x y o (sym e));
      delay = X.figures.delays x;
      kept = X.words.kept x;
      saved = X.words.saved x;
    }

    unowned : (l : ℕ) → at w.owner l ≡ 0 → (x : ℕ) → holds f x l ≡ false
    unowned l z x = not_so (holds f x l) (λ h. omega (arith, owned x l h))

    so_spares : SpareOk p s
    so_spares = record {
      released = λ x h. (X.figures.no_task x h).0;
      kept = λ x h. X.words.kept x ∙ at_or (λ x. at f.released x ≡ 0 → kept_of p f w.running x ≡ 0) w.running (λ _. kept_own p f w.running)
          (λ x m z. kept_other p f w.running x m ∙ rank_in p f x z) x (X.figures.no_task x h).0;
      delay = λ x h. (X.figures.no_task x h).1;
      depth = empty;
      takes = λ x h. let q : at f.takes x < 256 ^ 0 = subst (λ k. at f.takes x < 256 ^ k) (empty x h) (X.figures.places x) in omega arith;
      saved = λ x h. X.words.saved x ∙ unsaved_by p f x (empty x h);
      units = λ l h. X.figures.closed l (far l h);
      owner = λ l h. X.words.owner l ∙ owner_none f l n (λ x i. far l h x);
    }
      where
        empty : (x : ℕ) → n ≤ x → at f.depth x ≡ 0
        empty x h = X.figures.resting x (X.figures.no_task x h).0

        far : (l : ℕ) → p.locks ≤ l → (x : ℕ) → holds f x l ≡ false
        far l h x = not_so (holds f x l) (λ k. omega (arith, X.figures.known x l k))

    so_sound : sound_test pr p s ≡ true
    unfolding sound_test Each
    so_sound = so_all _ (
      so_obeys p X.plan,
      (
        so_head pr p f w (record {
          events = X.figures.events;
          eager = X.figures.eager;
          lazy = X.words.lazy;
          idle = λ e x h. X.words.idle e x;
          runs = λ e. (inside X.figures w.running (X.words.runs e), X.words.runs e);
          user = X.words.user;
          next = X.words.next;
        }),
        (
          true_every (task_test p f w) n (λ x h. so_task p f w x (so_tasks x h)),
          (
            true_every (lock_test p f w) p.locks (λ l h. so_lock p f w l (X.words.owner l) (X.figures.limits l)
                (λ z. X.figures.closed l (unowned l z))),
            (so_spare p s so_spares, tt),
          ),
        ),
      ),
    )

-- the test decides soundness
pub sound_is : (pr : Protocol) (p : Plan) (s : State) → (sound_test pr p s ≡ true) ↔ Sound pr p s
sound_is pr p s = (sound_so pr p s, so_sound pr p s)
