-- RULES 14.2, of calls: an unlock is a lazy call exactly where another released task is strictly above the restored priority (second protocol), or where the
-- kernel word is, which is the history's (first protocol); and the count of lazy calls is the history's. Assumes nothing.
use Rattle.std.specs.Prelude.{Ok, Err, if◌then◌else◌}
use Rattle.rules.specs.Numbers.Verdict.{Tested}
use mathlib.Core.Path.{◌≡◌, refl, sym, ◌∙◌, ap, ap₂}
use mathlib.Core.Logic.{◌≢◌, ⊎_elim}
use mathlib.Core.Bool.{Bool, true, false, not, ◌&&◌}
use mathlib.Core.List.{List}
use Prim.Native.Nat.{ℕ, zero, suc, ◌+◌, ◌<◌}
use native.Mathlib.Nat.{eq-zero-or-pos}
use native.Mathlib.Omega.{arith}
use lib.Dec.{eqb, ltb}
use borrow.Author.Tests.{ltb-true, lt-ltb, eqb-false, ne_eqb, not-true}
use Rattle.rules.specs.Numbers.Place.{at, greatest, sum}
use Rattle.rules.specs.Books.Plan.{Obeys}
use Rattle.rules.specs.Schedulers.Figures.{Figures, figures_of, priority_of, rank_of}
use Rattle.rules.specs.Schedulers.EventRefusals.{refusal_of}
use Rattle.rules.specs.Schedulers.FiguresAfter.{figures_after}
use Rattle.rules.specs.Schedulers.Eager.{eager_test}
use Rattle.rules.specs.Schedulers.Protocol.{second_word}
use Rattle.rules.specs.Schedulers.Lazy.{Words, words_of, calls_for, cut_to, entering, back_of, runs_on, switched, stays, after_release}
use Rattle.rules.specs.Schedulers.Lazy.{after_acquire, restored, leaves, after_unlock, words_after, enters, lazy_call}
use Rattle.rules.specs.Soundness.Sound.{kept_of, SoundSecond}
use Rattle.rules.specs.Replays.Step.{after_of, answered, act_of, step_of}
use Rattle.rules.specs.Numbers.Answer.{passes}
use Rattle.rules.specs.Demands.History.{event_at, eager_at, lazy_at, runner_at, accepted_at, outranked, call_rule, calls_due, kernel_at, lazy_count}
use Rattle.rules.specs.Demands.Demand2.{Outranked}
use Rattle.rules.specs.declared.plan.Plan.{Plan}
use Rattle.rules.specs.declared.protocol.Protocol.{Protocol}
use Rattle.rules.specs.declared.protocol.Protocol.TheVariants.{Second, First}
use Rattle.rules.specs.declared.state.State.{State}
use Rattle.rules.specs.declared.event.Event.{Event}
use Rattle.rules.specs.declared.event.Event.TheVariants.{Release, Acquire, Unlock, Work, Finish, Tick}
use Rattle.rules.proofs.Numbers.Choice.{if_true, if_false, by_test, and_true, true_and, not_so}
use Rattle.rules.proofs.Numbers.Place.{some_any, false_any, greatest_some}
use Rattle.rules.proofs.Schedulers.Passed.{Givable, passed_room, allowed}
use Rattle.rules.proofs.Schedulers.FiguresKept.{inside}
use Rattle.rules.proofs.Schedulers.WordsKept as WordsKept
use Rattle.rules.proofs.Schedulers.Rules.{call_below, no_call, below_call, rank_out, rank_in, kept_own, kept_other}
use Rattle.rules.proofs.Soundness.SoundKept.{scene, step_act}
use Rattle.rules.proofs.Demands.Follow.{Follows, same_test, entered, left, follows, same_figures, same_running}

-- ---- the call of an unlock

-- who outranks r's priority in g is another task, and released
pub outranks : (p : Plan) (f g : Figures) (r y : ℕ) → (not (eqb y r) && ltb (priority_of p g r) (rank_of p f y)) ≡ true
    → (y ≢ r) × (0 < at f.released y) × (priority_of p g r < priority_of p f y)
outranks p f g r y t =
    let (a, b) = and_true (not (eqb y r)) (ltb (priority_of p g r) (rank_of p f y)) t in
    let h : priority_of p g r < rank_of p f y = ltb-true _ _ b in
    let u : 0 < at f.released y = ⊎_elim (λ z. absurd (omega (arith, rank_in p f y z))) (λ u. u) (eq-zero-or-pos (at f.released y)) in
    (eqb-false y r (not-true (eqb y r) a), u, omega (arith, rank_out p f y u))

-- by either protocol: the word that is put back is the restored priority, and where another released task is strictly above it there is a call
module _ {pr : Protocol} {p : Plan} {s : State} (F : Follows pr p s) where
  abbrev f : Figures
  f = figures_of s

  abbrev w : Words
  w = words_of s

  abbrev r : ℕ
  r = s.head.running

  module _ (l : ℕ) (z : refusal_of p f r (Unlock l) ≡ Ok tt) where
    pub back_is : back_of w ≡ priority_of p (figures_after p f r (Unlock l)) r
    back_is =
        let o : Givable p f r l = allowed p f r (Unlock l) z in
        WordsKept.give_priority (scene F.sound (passed_room p f r (Unlock l) z)) o.runs o

    pub some_call : Outranked p f r l → calls_for (back_of w) w.next ≡ true
    some_call (y, m, u, h) = below_call (back_of w) w.next (omega (arith, back_is, F.covers y m u))

-- ---- the second protocol

module _ {p : Plan} {s : State} (F : Follows Second p s) (l : ℕ) (z : refusal_of p (figures_of s) s.head.running (Unlock l) ≡ Ok tt) where
  abbrev f₂ : Figures
  f₂ = figures_of s

  abbrev w₂ : Words
  w₂ = words_of s

  abbrev r₂ : ℕ
  r₂ = s.head.running

  pub call_some : calls_for (back_of w₂) w₂.next ≡ true → Outranked p f₂ r₂ l
  unfolding SoundSecond
  call_some e =
      let h : back_of w₂ < w₂.next = call_below (back_of w₂) w₂.next e in
      let n : w₂.next ≡ greatest (kept_of p f₂ r₂) p.tasks = F.sound.sound.words.next in
      let (y, q, k) = greatest_some (kept_of p f₂ r₂) p.tasks (omega arith) in
      let m : y ≢ r₂ = λ i. omega (arith, kept_own p f₂ r₂, ap (kept_of p f₂ r₂) i) in
      let u : 0 < at f₂.released y = ⊎_elim (λ z. absurd (omega (arith, kept_other p f₂ r₂ y m, rank_in p f₂ y z))) (λ u. u)
      (eq-zero-or-pos (at f₂.released y)) in
      (y, m, u, omega (arith, back_is F l z, kept_other p f₂ r₂ y m, rank_out p f₂ y u))

  -- the rule for a call, from the eager scheduler's figures
  outranked_is : outranked p f₂ (figures_after p f₂ r₂ (Unlock l)) r₂ ≡ calls_for (back_of w₂) w₂.next
  unfolding outranked
  outranked_is = by_test (calls_for (back_of w₂) w₂.next)
      (λ e. let (y, m, u, h) = call_some e in
      some_any test p.tasks y (inside F.ruled.figured y u)
      (true_and (not (eqb y r₂)) (ltb (priority_of p (figures_after p f₂ r₂ (Unlock l)) r₂) (rank_of p f₂ y)) (ap not (ne_eqb y r₂ m))
      (lt-ltb (priority_of p (figures_after p f₂ r₂ (Unlock l)) r₂) (rank_of p f₂ y) (omega (arith, rank_out p f₂ y u)))) ∙ sym e)
      (λ e. false_any test p.tasks (λ y q. not_so (test y) (λ t. none e y t)) ∙ sym e)
    where
      test : ℕ → Bool
      test y = not (eqb y r₂) && ltb (priority_of p (figures_after p f₂ r₂ (Unlock l)) r₂) (rank_of p f₂ y)

      none : calls_for (back_of w₂) w₂.next ≡ false → (y : ℕ) → test y ≡ true → ⊥
      none e y t =
          let (m, u, h) = outranks p f₂ (figures_after p f₂ r₂ (Unlock l)) r₂ y t in
          omega (arith, no_call (back_of w₂) w₂.next e, back_is F l z, F.covers y m u)

-- ---- an accepted event counts the calls that are due

-- what the history's kernel word has to be, where the second word is `next`: the first protocol goes by it, and the second does not
unfoldable pub KernelIs : Protocol → (word next : ℕ) → Type 0
KernelIs Second word next = Unit {0}
KernelIs First word next = word ≡ next

rule_is : (pr : Protocol) {p : Plan} {s : State} → Follows pr p s → (word : ℕ) → KernelIs pr word s.head.next.0 → (l : ℕ)
    → refusal_of p (figures_of s) s.head.running (Unlock l) ≡ Ok tt
    → call_rule pr p (figures_of s) word l ≡ calls_for (back_of (words_of s)) s.head.next.0
unfolding KernelIs call_rule calls_for
rule_is Second {p} {s} F word i l z =
    ap (λ q. outranked p (figures_of s) (figures_after p (figures_of s) q (Unlock l)) q) (sym F.running) ∙ outranked_is F l z
rule_is First {p} {s} F word i l z =
    ap₂ ltb (ap (λ q. priority_of p (figures_after p (figures_of s) q (Unlock l)) q) (sym F.running) ∙ sym (back_is F l z)) i

module _ {pr : Protocol} {p : Plan} {s : State} (F : Follows pr p s) (word : ℕ) (i : KernelIs pr word s.head.next.0) where
  pub due : (e : Event) → refusal_of p (figures_of s) s.head.running e ≡ Ok tt
      → (if lazy_call (words_of s) e then 1 else 0) ≡ calls_due pr p (figures_of s) word e
  unfolding lazy_call calls_due
  due (Release t) z = refl
  due (Acquire l) z = refl
  due (Unlock l) z = ap (λ b. if b then 1 else 0) (sym (rule_is pr F word i l z))
  due (Work a) z = refl
  due Finish z = refl
  due Tick z = refl

lazy_after : (pr : Protocol) (p : Plan) (f : Figures) (released : List ℕ) (w : Words) (e : Event)
    → (words_after pr p f released w e).lazy ≡ w.lazy + (if lazy_call w e then 1 else 0)
unfolding words_after after_release stays after_acquire after_unlock leaves entering restored switched runs_on lazy_call
lazy_after pr p f released w (Release t) = by_test (ltb (cut_to (at p.maximum w.running) w.user) (at p.base t)) (λ e. rw e (omega arith))
    (λ e. rw e (omega arith))
lazy_after pr p f released w (Acquire l) = omega arith
lazy_after pr p f released w (Unlock l) = by_test (calls_for (back_of w) w.next) (λ e. rw e) (λ e. rw e)
lazy_after pr p f released w (Work a) = omega arith
lazy_after pr p f released w Finish = omega arith
lazy_after pr p f released w Tick = omega arith

-- ---- along a list

module _ {pr : Protocol} {p : Plan} {s : State} (F : Follows pr p s) (word : ℕ) (i : KernelIs pr word s.head.next.0) where
  abbrev g : Figures
  g = figures_of s

  -- what one event adds to the count: the calls that are due, if it is accepted
  counted_by : (e : Event) (t : Tested) → refusal_of p g s.head.running e ≡ t
      → (answered t s (after_of pr p s e) (lazy_call (words_of s) e)).state.head.lazy ≡ s.head.lazy + (if passes t then calls_due pr p g word e else 0)
  unfolding answered after_of passes
  counted_by e (Ok _) z =
      lazy_after pr p g (figures_after p g s.head.running e).released (words_of s) e ∙ ap (λ b. s.head.lazy + b) (due F word i e z)
  counted_by e (Err why) z = omega arith

  counted_one : (e : Event) → (step_of pr p s e).state.head.lazy ≡ s.head.lazy + (if passes (eager_test p g e) then calls_due pr p g word e else 0)
  unfolding act_of
  counted_one e = rw (step_act F.sound e, same_test F e) (counted_by e (refusal_of p g s.head.running e) refl)

-- the first protocol's kernel word after an event: the priority of the task that runs then, if the event enters the kernel, and else what it was
module _ {p : Plan} {s : State} (F : Follows First p s) where
  abbrev h : Figures
  h = figures_of s

  abbrev K : Event → Bool
  K e = enters (eqb (calls_due First p h s.head.next.0 e) 1) e

  same_entry : (e : Event) → refusal_of p h s.head.running e ≡ Ok tt → K e ≡ enters (lazy_call (words_of s) e) e
  unfolding KernelIs
  same_entry e z = ap (λ b. enters b e) (ap (λ n. eqb n 1) (sym (due F s.head.next.0 refl e z)) ∙ back (lazy_call (words_of s) e))
    where
      back : (b : Bool) → eqb (if b then 1 else 0) 1 ≡ b
      back true = refl
      back false = refl

  kernel_by : (e : Event) (t : Tested) → refusal_of p h s.head.running e ≡ t
      → (answered t s (after_of First p s e) (lazy_call (words_of s) e)).state.head.next.0
      ≡ (if passes t && K e then (answered t s (after_of First p s e) (lazy_call (words_of s) e)).state.head.user.0 else s.head.next.0)
  unfolding answered after_of passes second_word
  kernel_by e (Ok _) z = by_test (enters (lazy_call (words_of s) e) e)
      (λ q. (entered First p h (figures_after p h s.head.running e).released (words_of s) e q).next ∙ sym (if_true (K e) _ _ (same_entry e z ∙ q)))
      (λ q. (left First p h (figures_after p h s.head.running e).released (words_of s) e q).next ∙ sym (if_false (K e) _ _ (same_entry e z ∙ q)))
  kernel_by e (Err why) z = refl

  kernel_one : (e : Event) → (step_of First p s e).state.head.next.0
      ≡ (if passes (eager_test p h e) && K e then (step_of First p s e).state.head.user.0 else s.head.next.0)
  unfolding act_of
  kernel_one e = rw (step_act F.sound e, same_test F e) (kernel_by e (refusal_of p h s.head.running e) refl)

module _ {p : Plan} (O : Obeys p) (es : List Event) where
  -- the kernel word after the event at place k, by the figures before it, the word before it and the user word after it
  kernel_next : ℕ → Figures → (word user : ℕ) → ℕ
  kernel_next k f word user =
      if passes (eager_test p f (event_at es k)) && enters (eqb (calls_due First p f word (event_at es k)) 1) (event_at es k) then user else word

  user_is : (k : ℕ) → (lazy_at First p es k).head.user.0 ≡ rank_of p (eager_at p es k) (runner_at p es k)
  user_is k = (follows First O es k).sound.sound.words.user ∙ ap₂ (rank_of p) (same_figures First O es k) (same_running First O es k)

  first_kernel : (k : ℕ) → kernel_at p es k ≡ (lazy_at First p es k).head.next.0
  unfolding kernel_at lazy_at accepted_at kernel_next
  first_kernel zero = refl
  first_kernel (suc k) =
      ap (λ f. kernel_next k f (kernel_at p es k) (rank_of p (eager_at p es (suc k)) (runner_at p es (suc k)))) (sym (same_figures First O es k))
      ∙ ap₂ (kernel_next k (figures_of (lazy_at First p es k))) (first_kernel k) (sym (user_is (suc k)))
      ∙ sym (kernel_one (follows First O es k) (event_at es k))

-- the kernel word of the history is the first protocol's
pub kernel_is : (pr : Protocol) {p : Plan} → Obeys p → (es : List Event) (k : ℕ) → KernelIs pr (kernel_at p es k) (lazy_at pr p es k).head.next.0
unfolding KernelIs
kernel_is Second O es k = tt
kernel_is First O es k = first_kernel O es k

module _ (pr : Protocol) {p : Plan} (O : Obeys p) (es : List Event) where
  pub lazy_counted : (k : ℕ) → (lazy_at pr p es k).head.lazy ≡ lazy_count pr p es k
  unfolding lazy_at lazy_count sum accepted_at
  lazy_counted zero = refl
  lazy_counted (suc k) =
      counted_one (follows pr O es k) (kernel_at p es k) (kernel_is pr O es k) (event_at es k)
      ∙ ap₂ (λ n (f : Figures). n + (if passes (eager_test p f (event_at es k)) then calls_due pr p f (kernel_at p es k) (event_at es k) else 0))
      (lazy_counted k) (same_figures pr O es k)
