-- RULES 14.7 holds: in a sound state the words are at most the maxima, and every state of a list from a fresh start is sound. Assumes nothing.
use mathlib.Core.Path.{◌≡◌, refl, sym, ◌∙◌}
use mathlib.Core.Logic.{⊎_elim}
use mathlib.Core.Bool.{Bool, true, false, ◌&&◌}
use Prim.Native.Nat.{ℕ, ◌≤◌, ◌<◌}
use native.Mathlib.Omega.{arith}
use lib.ListN.{replicate, get_or-replicate}
use borrow.Author.Tests.{le-ltb}
use Rattle.rules.specs.Numbers.Capacity.{max_tasks}
use Rattle.rules.specs.Numbers.Place.{at}
use Rattle.rules.specs.Schedulers.Figures.{Figures, figures_of, priority_of}
use Rattle.rules.specs.Schedulers.FiguresAfter.{stays_open, eager_calls, delayed, figures_after}
use Rattle.rules.specs.Schedulers.Lazy.{Words, words_of, back_of, entering, restored, after_unlock, words_after, enters, lazy_call}
use Rattle.rules.specs.Soundness.Sound.{Sound}
use Rattle.rules.specs.Replays.Step.{after_of}
use Rattle.rules.specs.Demands.Maximum.{found_word, cuts, unbounded, Uncut, Maximum}
use Rattle.rules.specs.declared.plan.Plan.{Plan}
use Rattle.rules.specs.declared.protocol.Protocol.{Protocol}
use Rattle.rules.specs.declared.state.State.{State}
use Rattle.rules.specs.declared.event.Event.{Event}
use Rattle.rules.specs.declared.event.Event.TheVariants.{Release, Acquire, Unlock, Work, Finish, Tick}
use Rattle.rules.proofs.Numbers.Choice.{lt_or_le}
use Rattle.rules.proofs.Books.Obeyed.{few_tasks}
use Rattle.rules.proofs.Schedulers.Rules.{entering_same}
use Rattle.rules.proofs.Schedulers.Maximum.{user_most, back_most, enters_same, calls_same}
use Rattle.rules.proofs.Demands.Follow.{follows}

and_none : (a b : Bool) → b ≡ false → (a && b) ≡ false
and_none true b e = e
and_none false b e = refl

module _ (pr : Protocol) {p : Plan} {s : State} (S : Sound pr p s) where
  abbrev f : Figures
  f = figures_of s

  abbrev w : Words
  w = words_of s

  user_low : w.user ≤ at p.maximum w.running
  user_low = user_most S.plan S.figures S.words

  back_low : back_of w ≤ at p.maximum w.running
  back_low = back_most S.plan S.figures S.words

  found_low : (e : Event) → found_word w e ≤ at p.maximum w.running
  unfolding found_word
  found_low (Release t) = user_low
  found_low (Acquire l) = user_low
  found_low (Unlock l) = back_low
  found_low (Work a) = user_low
  found_low Finish = user_low
  found_low Tick = user_low

  -- what is at most a task's maximum is at most 255, and for nobody it is 0
  wide : (v : ℕ) → v ≤ at p.maximum w.running → v ≤ at (replicate max_tasks 255) w.running
  wide v h = ⊎_elim
      (λ (l : w.running < max_tasks). omega (arith, get_or-replicate {A = ℕ} max_tasks w.running 255 0 l, S.plan.maximum_bytes w.running))
      (λ (l : max_tasks ≤ w.running). omega (arith, (S.plan.no_task w.running (omega (arith, few_tasks S.plan))).1))
      (lt_or_le w.running max_tasks)

  -- so by either plan an entry finds the words as they are
  entry : entering p.maximum w ≡ entering (replicate max_tasks 255) w
  entry = enters_same S.plan S.figures S.words ∙ sym (entering_same (replicate max_tasks 255) w (wide w.user user_low))

  call : (stays : Bool) (l : ℕ) → entering p.maximum (restored stays l 1 w) ≡ entering (replicate max_tasks 255) (restored stays l 1 w)
  unfolding restored
  call stays l = calls_same S.plan S.figures S.words stays l 1
      ∙ sym (entering_same (replicate max_tasks 255) (restored stays l 1 w) (wide (back_of w) back_low))

  same_after : (e : Event) → after_of pr p s e ≡ after_of pr (unbounded p) s e
  unfolding after_of figures_after eager_calls priority_of delayed words_after after_unlock
  same_after (Release t) = rw entry
  same_after (Acquire l) = refl
  same_after (Unlock l) = rw (call (stays_open (figures_of s) w.running l) l)
  same_after (Work a) = refl
  same_after Finish = rw entry
  same_after Tick = rw entry

  uncut : Uncut pr p s
  unfolding cuts
  uncut = record {
    never = λ e. and_none (enters (lazy_call w e) e) _ (le-ltb (at p.maximum w.running) (found_word w e) (found_low e));
    same = same_after;
    user = user_low;
  }

pub maximum : Maximum
maximum = record { sound = λ pr p s S. uncut pr S; fresh = λ pr p O es k. uncut pr (follows pr O es k).sound.sound }
