-- What a sound state lets a scheduler leave out: first as laws of tables and numbers, then of the state. Assumes nothing.
use mathlib.Core.Path.{◌≡◌, sym, ◌∙◌, ap}
use mathlib.Core.Logic.{◌≢◌, ⊎_elim}
use mathlib.Core.List.{List}
use Prim.Native.Nat.{ℕ, ◌≤◌, ◌<◌, max}
use native.Mathlib.Omega.{arith}
use lib.Dec.{ltb}
use lib.ListN.{length, set, length-set}
use lib.Seq.{get_or-set_same, get_or-set_other, ext_get_or}
use borrow.Author.Tests.{lt-ltb, le-ltb}
use Rattle.rules.specs.Numbers.Capacity.{max_tasks}
use Rattle.rules.specs.Numbers.Place.{at, greatest}
use Rattle.rules.specs.Schedulers.Elect.{elected}
use Rattle.rules.specs.Schedulers.Figures.{Figures, figures_of}
use Rattle.rules.specs.Schedulers.FiguresAfter.{delayed, figures_after}
use Rattle.rules.specs.Schedulers.Protocol.{second_word}
use Rattle.rules.specs.Schedulers.Lazy.{Words, words_of, entering, best_kept, runs_on, switched, stays, after_release, words_after}
use Rattle.rules.specs.Soundness.Shortcuts.{Shortcuts, TickSame}
use Rattle.rules.specs.Soundness.Sound.{kept_of, SoundSecond, SoundAndSized}
use Rattle.rules.specs.Replays.Step.{after_of}
use Rattle.rules.specs.declared.plan.Plan.{Plan}
use Rattle.rules.specs.declared.protocol.Protocol.{Protocol}
use Rattle.rules.specs.declared.protocol.Protocol.TheVariants.{Second}
use Rattle.rules.specs.declared.state.State.{State}
use Rattle.rules.proofs.Numbers.Choice.{if_true, if_false, at_or, lt_or_le}
use Rattle.rules.proofs.Numbers.Place.{greatest_all, greatest_ext, greatest_set, renewed_same, none_past}
use Rattle.rules.proofs.Books.Obeyed.{few_tasks}
use Rattle.rules.proofs.Schedulers.Elect.{elected_above}
use Rattle.rules.proofs.Schedulers.Rules.{rank_in, rank_out, base_priority, kept_own, kept_other, delayed_same}
use Rattle.rules.proofs.Schedulers.Maximum.{enters_same}

-- ---- a newcomer t of base b above the user word and all that is kept; task r of user word u leaves, or nobody

-- it is alone at the top of the kept priorities, and once it runs they are as if it had not been among them
module _ (pr : Protocol) (n t b r u : ℕ) (released kept : List ℕ) (few : n ≤ max_tasks) (sized : length kept ≡ max_tasks) (known : t < n) (none : at kept t ≡ 0)
    (other : t ≢ r) (left : at kept r ≡ 0) (idle : n ≤ r → u ≡ 0) where
  arrived : List ℕ
  arrived = set (set kept t b) r u

  own : at arrived t ≡ b
  unfolding arrived
  own = get_or-set_other (set kept t b) r t u 0 other ∙ get_or-set_same kept t b 0 (omega arith)

  others : (x : ℕ) → x ≢ t → at arrived x ≡ at (set kept r u) x
  unfolding arrived
  others x d = at_or (λ x. x ≢ t → at (set (set kept t b) r u) x ≡ at (set kept r u) x) r
      (λ q. ⊎_elim
      (λ (l : r < max_tasks). get_or-set_same (set kept t b) r u 0 (omega (arith, length-set kept t b)) ∙ sym (get_or-set_same kept r u 0 (omega arith)))
      (λ (l : max_tasks ≤ r). past (set kept t b) (length-set kept t b ∙ sized) l ∙ sym (past kept sized l))
      (lt_or_le r max_tasks))
      (λ y e q. get_or-set_other (set kept t b) r y u 0 e ∙ get_or-set_other kept t y b 0 q ∙ sym (get_or-set_other kept r y u 0 e)) x d
    where
      past : (xs : List ℕ) → length xs ≡ max_tasks → max_tasks ≤ r → at (set xs r u) r ≡ 0
      past xs e l = sym (none_past (set xs r u) max_tasks r (length-set xs r u ∙ e) l)

  cleared : set arrived t 0 ≡ set kept r u
  unfolding arrived
  cleared = ext_get_or 0 (set arrived t 0) (set kept r u)
      (length-set arrived t 0 ∙ length-set (set kept t b) r u ∙ length-set kept t b ∙ sym (length-set kept r u))
      (λ x _. at_or (λ x. at (set arrived t 0) x ≡ at (set kept r u) x) t
      (get_or-set_same arrived t 0 0 (omega (arith, length-set (set kept t b) r u, length-set kept t b)) ∙ sym (get_or-set_other kept r t u 0 other ∙ none))
      (λ x d. get_or-set_other arrived t x 0 0 d ∙ others x d) x)

  second : greatest (at (set kept r u)) n ≡ max (greatest (at kept) n) u
  second = ⊎_elim
      (λ (l : r < n). greatest_set kept n r u left l (omega arith))
      (λ (l : n ≤ r). greatest_ext (at (set kept r u)) (at kept) n (λ x q. get_or-set_other kept r x u 0 (λ e. omega arith)) ∙ omega (arith, idle l))
      (lt_or_le r n)

  pub newcomer_runs : u < b → greatest (at kept) n < b → (w : Words) → switched pr n released (set (set kept t b) r u) w
      ≡ record {
        running = t;
        user = b;
        next = second_word pr b (max (greatest (at kept) n) u);
        lazy = w.lazy;
        kept = set kept r u;
        saved = w.saved;
        owner = w.owner;
      }
  unfolding arrived switched runs_on
  newcomer_runs h k w = rw (top, own, cleared, second)
    where
      top : elected (at released) (at arrived) n ≡ t
      top = elected_above (at released) (at arrived) n (omega arith) t known (omega (arith, own))
          (λ x l d. omega (arith, own, others x d, second, greatest_all (at (set kept r u)) n x l))

-- ---- every sound state

module _ {pr : Protocol} {p : Plan} {s : State} (S : SoundAndSized pr p s) where
  abbrev r : ℕ
  r = s.head.running

  abbrev f : Figures
  f = figures_of s

  -- for whom nothing is kept
  pub kept_none : (t : ℕ) → at s.released t ≡ 0 → at s.kept t ≡ 0
  kept_none t z = S.sound.words.kept t ∙ at_or (λ t. at s.released t ≡ 0 → kept_of p f r t ≡ 0) r (λ _. kept_own p f r)
      (λ t d z. kept_other p f r t d ∙ rank_in p f t z) t z

  pub kept_running : at s.kept r ≡ 0
  kept_running = S.sound.words.kept r ∙ kept_own p f r

  -- whoever runs is one of the plan's tasks and released, or there is no user word
  pub idle_word : p.tasks ≤ r → s.head.user.0 ≡ 0
  idle_word l = S.sound.words.user ∙ rank_in p f r (S.sound.figures.no_task r l).0

  pub newcomer_other : (t : ℕ) → t < p.tasks → at s.released t ≡ 0 → t ≢ r
  newcomer_other t l z e =
      let o : 0 < at s.released r = S.sound.words.runs (λ q. omega (arith, few_tasks S.sound.plan)) in
      omega (arith, ap (at s.released) e)

  -- a released task of greater base than the running one's is not above the greatest kept priority
  pub waiting : (x : ℕ) → 0 < at s.released x → at p.base r < at p.base x → at p.base x ≤ best_kept s.kept p.tasks
  waiting x o l = ⊎_elim
      (λ (q : x < p.tasks). omega (
        arith,
        base_priority p f x,
        rank_out p f x o,
        kept_other p f r x (λ e. omega (arith, ap (at p.base) e)),
        S.sound.words.kept x,
        greatest_all (at s.kept) p.tasks x q,
      ))
      (λ (q : p.tasks ≤ x). absurd (omega (arith, (S.sound.figures.no_task x q).0)))
      (lt_or_le x p.tasks)

  -- an entry to the kernel cuts nothing
  found : entering p.maximum (words_of s) ≡ words_of s
  found = enters_same S.sound.plan S.sound.figures S.sound.words

  -- ---- the shortcuts

  pub shortcuts : Shortcuts pr p s
  unfolding after_of words_after figures_after after_release stays
  shortcuts = record {
    waits = λ t o h. rw found (ap (λ (w : Words). w.next) (if_false (ltb s.head.user.0 (at p.base t)) _ _ (le-ltb s.head.user.0 (at p.base t) h))
        ∙ ap (second_word pr s.head.user.0)
        (greatest_set s.kept p.tasks t (at p.base t) (kept_none t o.unreleased) o.known (omega (arith, few, S.words_sized.kept, o.known))));
    runs = λ t o h k. rw found (let e : after_release pr p.tasks _ (set s.kept t (at p.base t)) (at p.base t) (words_of s) ≡ _ =
        if_true (ltb s.head.user.0 (at p.base t)) _ _ (lt-ltb s.head.user.0 (at p.base t) h)
        ∙ newcomer_runs pr p.tasks t (at p.base t) r s.head.user.0 _ s.kept few S.words_sized.kept o.known (kept_none t o.unreleased)
        (newcomer_other t o.known o.unreleased) kept_running idle_word h k (words_of s) in
        (ap (λ (w : Words). w.running) e, ap (λ (w : Words). w.user) e, ap (λ (w : Words). w.next) e));
    spares = λ a h. renewed_same s.delay (delayed p f r a) p.tasks
        (λ x l. delayed_same p f r a x (λ c. omega (arith, waiting x c.out c.lower, c.lower)));
  }
    where
      few : p.tasks ≤ max_tasks
      few = few_tasks S.sound.plan

-- in the second protocol the next word is the greatest kept priority, so that a tick leaves it as it was
pub tick_same : {p : Plan} {s : State} → SoundAndSized Second p s → TickSame p s
unfolding after_of words_after stays second_word SoundSecond
tick_same {p} {s} S =
    greatest_ext (at s.kept) (kept_of p (figures_of s) s.head.running) p.tasks (λ x l. S.sound.words.kept x) ∙ sym S.sound.words.next
