-- A take of an open lock raises nothing and calls nobody: the lock's ceiling is at most the priority that its holder has with the rest of its row.
-- Assumes nothing.
use Rattle.std.specs.Prelude.{Ok, Err}
use Rattle.rules.specs.Numbers.Verdict.{Tested}
use mathlib.Core.Path.{◌≡◌, refl, sym, ◌∙◌, ap, ap₂, subst}
use mathlib.Core.Logic.{◌≢◌}
use mathlib.Core.Bool.{Bool, true, false, not, ◌&&◌, ◌||◌}
use mathlib.Core.List.{List}
use Prim.Native.Nat.{ℕ, suc, ◌+◌, ◌-◌, ◌≤◌, ◌<◌, max}
use native.Mathlib.Nat.{add-zero}
use native.Mathlib.Omega.{arith}
use lib.Dec.{eqb}
use lib.ListN.{set}
use lib.Seq.{get_or-set_same, set-get_or, set-set}
use borrow.Author.Tests.{eq-eqb, eqb-false, not-true}
use Rattle.rules.specs.Numbers.Capacity.{max_takes, max_accepted, nobody}
use Rattle.rules.specs.Numbers.Place.{at}
use Rattle.rules.specs.Numbers.Row.{under, pushed, has, priority}
use Rattle.rules.specs.Numbers.Answer.{answer_number, answer_calls}
use Rattle.rules.specs.Books.Plan.{Obeys}
use Rattle.rules.specs.Schedulers.Figures.{Figures, figures_of, holds, priority_of}
use Rattle.rules.specs.Schedulers.EventRefusals.{elsewhere, refusal_of}
use Rattle.rules.specs.Schedulers.FiguresAfter.{differs, stays_open, figures_after}
use Rattle.rules.specs.Schedulers.Lazy.{Words, words_of, state_of, calls_for, back_of, after_acquire, restored, after_unlock, words_after, lazy_call}
use Rattle.rules.specs.Soundness.Sound.{SoundFigures, SoundAndSized}
use Rattle.rules.specs.Replays.Step.{after_of, answered, act_of, step_of}
use Rattle.rules.specs.Demands.History.{eager_at, lazy_at}
use Rattle.rules.specs.Demands.Again.{RowsOnly, OneMore, later, TakenAgain, Again}
use Rattle.rules.specs.declared.plan.Plan.{Plan}
use Rattle.rules.specs.declared.protocol.Protocol.{Protocol}
use Rattle.rules.specs.declared.state.State.{State}
use Rattle.rules.specs.declared.answer.Stepped.{Stepped}
use Rattle.rules.specs.declared.event.Event.{Event}
use Rattle.rules.specs.declared.event.Event.TheVariants.{Acquire, Unlock}
use Rattle.rules.proofs.Numbers.Choice.{if_true, if_false, not_so, and_true}
use Rattle.rules.proofs.Numbers.Place.{false_any}
use Rattle.rules.proofs.Numbers.Refusals.{numbered}
use Rattle.rules.proofs.Numbers.Row.{under_pushed, priority_suc, priority_has, priority_below}
use Rattle.rules.proofs.Books.Obeyed.{few_tasks, few_locks, base_byte, ceiling_byte}
use Rattle.rules.proofs.Schedulers.Passed.{Takeable, Givable, passed_room, allowed, accepts}
use Rattle.rules.proofs.Schedulers.Rules.{call_below, left_same}
use Rattle.rules.proofs.Schedulers.FiguresKept as SoundFigures
use Rattle.rules.proofs.Schedulers.FiguresKept.{inside, holder_out}
use Rattle.rules.proofs.Schedulers.WordsKept as SoundWords
use Rattle.rules.proofs.Schedulers.WordsKept.{Scene, owner_is}
use Rattle.rules.proofs.Soundness.SoundKept.{scene, step_act}
use Rattle.rules.proofs.Demands.EagerRuled.{pays}
use Rattle.rules.proofs.Demands.Follow.{Follows, follow_one, follows, same_figures, same_running}

-- priorities that are the same are no call
differs_none : (a b : ℕ) → a ≡ b → differs a b ≡ 0
unfolding differs
differs_none a b e = if_true (eqb a b) 0 1 (eq-eqb a b e)

-- what was there is written back
written_back : (xs : List ℕ) (i a b : ℕ) → b ≡ at xs i → set (set xs i a) i b ≡ xs
written_back xs i a b e = set-set xs i a b ∙ ap (set xs i) e ∙ set-get_or xs i 0

-- two events that change rows only, and give the rows back
both_later : (s t u : State) → RowsOnly s t → RowsOnly t u → u.depth ≡ s.depth → u.takes ≡ s.takes → u.saved ≡ s.saved → u ≡ later 2 s
both_later s t u A B d k v = let two : u.head.accepted ≡ s.head.accepted + 2 = omega (arith, A.accepted, B.accepted) in rw (
  two,
  B.running ∙ A.running,
  B.user ∙ A.user,
  B.next ∙ A.next,
  B.lazy ∙ A.lazy,
  B.eager ∙ A.eager,
  B.released ∙ A.released,
  B.kept ∙ A.kept,
  B.delay ∙ A.delay,
  B.units ∙ A.units,
  B.owner ∙ A.owner,
  d,
  k,
  v,
)

-- ---- a step that is accepted

passed_by : (t : Tested) (s after : State) (call : Bool) → answer_number (answered t s after call).answer ≡ 0 → t ≡ Ok tt
unfolding answered answer_number
passed_by (Ok _) s after call e = refl
passed_by (Err why) s after call e = absurd (omega (arith, (numbered why).0))

module _ {pr : Protocol} {p : Plan} {s : State} (S : SoundAndSized pr p s) (e : Event) where
  passed_so : answer_number (step_of pr p s e).answer ≡ 0 → refusal_of p (figures_of s) s.head.running e ≡ Ok tt
  unfolding act_of
  passed_so z = passed_by (refusal_of p (figures_of s) s.head.running e) s (after_of pr p s e) (lazy_call (words_of s) e)
      (ap (λ (x : Stepped). answer_number x.answer) (sym (step_act S e)) ∙ z)

  stepped : refusal_of p (figures_of s) s.head.running e ≡ Ok tt
      → step_of pr p s e ≡ record { answer = Ok (lazy_call (words_of s) e); state = after_of pr p s e }
  unfolding act_of answered
  stepped z = step_act S e ∙ ap (λ t. answered t s (after_of pr p s e) (lazy_call (words_of s) e)) z

-- ---- the running task has lock l open

module _ {pr : Protocol} {p : Plan} {s : State} (F : Follows pr p s) (l : ℕ) (mine : holds (figures_of s) s.head.running l ≡ true) where
  abbrev f : Figures
  f = figures_of s

  abbrev w : Words
  w = words_of s

  abbrev r : ℕ
  r = s.head.running

  abbrev S : SoundAndSized pr p s
  S = F.sound

  abbrev O : Obeys p
  O = S.sound.plan

  abbrev G : SoundFigures p f
  G = S.sound.figures

  out : 0 < at f.released r
  out = holder_out G r l mine

  somebody : r ≢ nobody
  somebody e = omega (arith, inside G r out, few_tasks O)

  -- the ceiling is at most the priority
  low : at p.ceiling l ≤ priority_of p f r
  low = pays p f r l mine

  nobody_else : elsewhere f p.tasks r l ≡ false
  unfolding elsewhere
  nobody_else = false_any (λ x. not (eqb x r) && holds f x l) p.tasks (λ x q. not_so (not (eqb x r) && holds f x l)
      (λ t. let (n, h) = and_true (not (eqb x r)) (holds f x l) t in eqb-false x r (not-true (eqb x r) n) (G.alone x r l h mine)))

  takes_again : at f.depth r < max_takes → f.accepted < max_accepted → refusal_of p f r (Acquire l) ≡ Ok tt
  takes_again h room = accepts p f r (Acquire l) room
      (record { runs = somebody; known = G.known r l mine; declared = G.declared r l mine; free = nobody_else; room = h })

  -- ---- the acquire

  module _ (z : refusal_of p f r (Acquire l) ≡ Ok tt) where
    abbrev A : Scene pr p f w
    A = scene S (passed_room p f r (Acquire l) z)

    abbrev o : Takeable p f r l
    o = allowed p f r (Acquire l) z

    not_raised : max w.user (at p.ceiling l) ≡ w.user
    not_raised = omega (arith, low, SoundWords.user_priority A somebody)

    owned : r + 1 ≡ at s.owner l
    owned = omega (arith, S.sound.words.owner l, owner_is f l r p.tasks (inside G r out) mine (λ y h. G.alone y r l h mine))

    rows_taken : RowsOnly s (after_of pr p s (Acquire l))
    unfolding after_of words_after after_acquire figures_after
    rows_taken = record {
      accepted = refl;
      running = refl;
      user = not_raised;
      next = refl;
      lazy = refl;
      eager = SoundWords.take_calls A somebody o ∙ ap (λ n. f.eager + n) (differs_none w.user (max w.user (at p.ceiling l)) (sym not_raised))
          ∙ add-zero f.eager;
      released = refl;
      kept = refl;
      delay = refl;
      units = refl;
      owner = ap (set s.owner l) owned ∙ set-get_or s.owner l 0;
    }

    one_more : OneMore s (after_of pr p s (Acquire l)) l
    unfolding after_of words_after after_acquire figures_after
    one_more = record { depth = refl; takes = refl; saved = refl }

    -- the lock stays open after the unlock of this take
    under_it : stays_open (figures_of (after_of pr p s (Acquire l))) r l ≡ true
    unfolding after_of stays_open holds
    under_it =
        ap₂ (λ a b. has (under a) (b - 1) l) (SoundFigures.take_row A.stage out o) (SoundFigures.take_depth A.stage out o)
        ∙ ap₂ (λ a b. has a b l) (under_pushed (at f.takes r) l (omega (arith, few_locks O, o.known))) less ∙ mine
      where
        less : suc (at f.depth r) - 1 ≡ at f.depth r
        less = omega arith

    -- what its unlock writes is what was there
    user_byte : w.user < 256
    unfolding priority_of
    user_byte = rw (SoundWords.user_priority A somebody) (priority_below (at p.ceiling) (at p.base r) 256 (at f.takes r) (at f.depth r)
        (base_byte O r) (λ v _. ceiling_byte O v))

    depth_back : at (after_of pr p s (Acquire l)).depth r - 1 ≡ at s.depth r
    unfolding after_of
    depth_back = omega (arith, SoundFigures.take_depth A.stage out o)

    takes_back : under (at (after_of pr p s (Acquire l)).takes r) ≡ at s.takes r
    unfolding after_of
    takes_back = ap under (SoundFigures.take_row A.stage out o) ∙ under_pushed (at f.takes r) l (omega (arith, few_locks O, o.known))

    saved_back : under (at (after_of pr p s (Acquire l)).saved r) ≡ at s.saved r
    unfolding after_of words_after after_acquire
    saved_back =
        ap under (get_or-set_same s.saved r (pushed (at s.saved r) w.user) 0 (omega (arith, inside G r out, few_tasks O, S.words_sized.saved)))
        ∙ under_pushed (at s.saved r) w.user user_byte

  -- ---- an unlock that leaves it open

  module _ (z : refusal_of p f r (Unlock l) ≡ Ok tt) (open-still : stays_open f r l ≡ true) where
    abbrev B : Scene pr p f w
    B = scene S (passed_room p f r (Unlock l) z)

    abbrev g : Givable p f r l
    g = allowed p f r (Unlock l) z

    -- the rest of the row has the lock, so its ceiling is in the priority already
    not_lowered : priority_of p (figures_after p f r (Unlock l)) r ≡ priority_of p f r
    unfolding priority_of
    not_lowered =
        let c : ℕ → ℕ = at p.ceiling in
        let b : ℕ = at p.base r in
        let row : ℕ = at f.takes r in
        let k : ℕ = SoundFigures.less B.stage out g in
        omega (
          arith,
          ap₂ (priority c b) (SoundFigures.give_row B.stage out g) (SoundFigures.give_depth B.stage out g),
          ap (priority c b row) (SoundFigures.give_was B.stage out g),
          priority_suc c b row k,
          ap c g.newest,
          priority_has c b (under row) k l (sym (SoundFigures.give_rest B.stage out g) ∙ open-still),
        )

    put_back : back_of w ≡ w.user
    put_back = SoundWords.give_priority B somebody g ∙ not_lowered ∙ sym (SoundWords.user_priority B somebody)

    no_call : calls_for (back_of w) w.next ≡ false
    no_call = not_so (calls_for (back_of w) w.next) (λ e. omega (arith, call_below (back_of w) w.next e, put_back, F.at_most))

    words_left : words_after pr p f f.released w (Unlock l) ≡ restored (stays_open f r l) l 0 w
    unfolding words_after after_unlock
    words_left = if_false (calls_for (back_of w) w.next) _ (restored (stays_open f r l) l 0 w) no_call

    state_left : after_of pr p s (Unlock l) ≡ state_of (figures_after p f r (Unlock l)) (restored (stays_open f r l) l 0 w)
    unfolding after_of figures_after
    state_left = ap (state_of (figures_after p f r (Unlock l))) words_left

    rows_given : RowsOnly s (after_of pr p s (Unlock l))
    unfolding restored figures_after
    rows_given = rw state_left (record {
      accepted = refl;
      running = refl;
      user = put_back;
      next = refl;
      lazy = add-zero s.head.lazy;
      eager = SoundWords.give_calls B somebody g ∙ ap (λ n. f.eager + n) (differs_none w.user (back_of w) (sym put_back)) ∙ add-zero f.eager;
      released = refl;
      kept = refl;
      delay = refl;
      units = ap (set s.units l) (left_same (stays_open f r l) (at s.units l) open-still) ∙ set-get_or s.units l 0;
      owner = ap (set s.owner l) (left_same (stays_open f r l) (at s.owner l) open-still) ∙ set-get_or s.owner l 0;
    })

    no_calls : answer_calls (Ok (lazy_call w (Unlock l))) ≡ 0
    unfolding answer_calls lazy_call
    no_calls = if_false (calls_for (back_of w) w.next) 1 0 no_call

    -- the rows that it leaves
    depth_left : (after_of pr p s (Unlock l)).depth ≡ set s.depth r (at s.depth r - 1)
    unfolding after_of figures_after
    depth_left = refl

    takes_left : (after_of pr p s (Unlock l)).takes ≡ set s.takes r (under (at s.takes r))
    unfolding after_of figures_after
    takes_left = refl

    saved_left : (after_of pr p s (Unlock l)).saved ≡ set s.saved r (under (at s.saved r))
    unfolding restored
    saved_left = ap (λ (t : State). t.saved) state_left

  still_open : refusal_of p f r (Unlock l) ≡ Ok tt → holds (figures_of (after_of pr p s (Unlock l))) r l ≡ true → stays_open f r l ≡ true
  unfolding after_of
  still_open z h = sym (SoundFigures.give_stays (scene S (passed_room p f r (Unlock l) z)).stage out (allowed p f r (Unlock l) z)) ∙ h

-- ---- the one after the other

module _ {pr : Protocol} {p : Plan} {s : State} (F : Follows pr p s) (l : ℕ) (mine : holds (figures_of s) s.head.running l ≡ true)
    (z : refusal_of p (figures_of s) s.head.running (Acquire l) ≡ Ok tt) where
  abbrev t : State
  t = after_of pr p s (Acquire l)

  follows_on : Follows pr p t
  follows_on = subst (λ (x : Stepped). Follows pr p x.state) (stepped F.sound (Acquire l) z) (follow_one F (Acquire l))

  mine_still : holds (figures_of t) t.head.running l ≡ true
  unfolding after_of words_after after_acquire
  mine_still = SoundFigures.take_holds (scene F.sound (passed_room p (figures_of s) s.head.running (Acquire l) z)).stage (out F l mine)
      (allowed p (figures_of s) s.head.running (Acquire l) z) l
      ∙ ap (λ b. b || holds (figures_of s) s.head.running l) (eq-eqb l l refl)

  stays_there : stays_open (figures_of t) t.head.running l ≡ true
  stays_there = ap (λ x. stays_open (figures_of t) x l) (rows_taken F l mine z).running ∙ under_it F l mine z

  module _ (y : refusal_of p (figures_of t) t.head.running (Unlock l) ≡ Ok tt) where
    undoes : after_of pr p t (Unlock l) ≡ later 2 s
    undoes = both_later s t (after_of pr p t (Unlock l)) (rows_taken F l mine z) (rows_given follows_on l mine_still y stays_there)
        (depth_left follows_on l mine_still y stays_there ∙ rw (who, one.depth) (written_back s.depth r _ _ (rw (← one.depth) (depth_back F l mine z))))
        (takes_left follows_on l mine_still y stays_there ∙ rw (who, one.takes) (written_back s.takes r _ _ (rw (← one.takes) (takes_back F l mine z))))
        (saved_left follows_on l mine_still y stays_there ∙ rw (who, one.saved) (written_back s.saved r _ _ (rw (← one.saved) (saved_back F l mine z))))
      where
        r : ℕ
        r = s.head.running

        who : t.head.running ≡ r
        who = (rows_taken F l mine z).running

        one : OneMore s t l
        one = one_more F l mine z

accepted_zero : (call : Bool) → answer_number (Ok call) ≡ 0
unfolding answer_number
accepted_zero call = refl

taken_again : {pr : Protocol} {p : Plan} {s : State} → Follows pr p s → (l : ℕ) → holds (figures_of s) s.head.running l ≡ true → TakenAgain pr p s l
taken_again {pr} {p} {s} F l mine = record {
  accepts = λ h room. ap (λ (x : Stepped). answer_number x.answer) (stepped F.sound (Acquire l) (takes_again F l mine h room))
      ∙ accepted_zero (lazy_call (words_of s) (Acquire l));
  taken = λ a.
      let z : refusal_of p (figures_of s) s.head.running (Acquire l) ≡ Ok tt = passed_so F.sound (Acquire l) a in
      rw (stepped F.sound (Acquire l) z) (rows_taken F l mine z, one_more F l mine z);
  given = λ a h.
      let z : refusal_of p (figures_of s) s.head.running (Unlock l) ≡ Ok tt = passed_so F.sound (Unlock l) a in
      let q : stays_open (figures_of s) s.head.running l ≡ true = still_open F l mine z (rw (stepped F.sound (Unlock l) z) at h) in
      rw (stepped F.sound (Unlock l) z) (rows_given F l mine z q, no_calls F l mine z q);
  undone = λ a.
      let z : refusal_of p (figures_of s) s.head.running (Acquire l) ≡ Ok tt = passed_so F.sound (Acquire l) a in
      rw (stepped F.sound (Acquire l) z) (λ b.
      let E : Follows pr p (after_of pr p s (Acquire l)) = follows_on F l mine z in
      let y : refusal_of p (figures_of (after_of pr p s (Acquire l))) (after_of pr p s (Acquire l)).head.running (Unlock l) ≡ Ok tt =
      passed_so E.sound (Unlock l) b in
      ap (λ (x : Stepped). x.state) (stepped E.sound (Unlock l) y) ∙ undoes F l mine z y);
}

-- at every place of every list, by the lazy scheduler's own state or by the eager one's figures
pub taken_at : (pr : Protocol) {p : Plan} → Obeys p → (es : List Event) (k l : ℕ)
    → holds (figures_of (lazy_at pr p es k)) (lazy_at pr p es k).head.running l ≡ true → TakenAgain pr p (lazy_at pr p es k) l
taken_at pr O es k l h = taken_again (follows pr O es k) l h

pub again : Again
again pr p O es k l h = taken_at pr O es k l
    (subst (λ (f : Figures). holds f (lazy_at pr p es k).head.running l ≡ true) (sym (same_figures pr O es k))
    (subst (λ r. holds (eager_at p es k) r l ≡ true) (sym (same_running pr O es k)) h))
