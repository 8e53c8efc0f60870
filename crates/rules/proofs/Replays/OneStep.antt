-- What one step answers: a refused event leaves the state, and an accepted one says whether it called. Assumes nothing.
use Rattle.std.specs.Prelude.{Ok, Err}
use Rattle.rules.specs.Numbers.Verdict.{Tested}
use mathlib.Core.Path.{◌≡◌, refl, sym, ◌∙◌, ap}
use mathlib.Core.Bool.{Bool}
use Prim.Native.Nat.{ℕ}
use native.Mathlib.Omega.{arith}
use Rattle.rules.specs.Schedulers.Figures.{figures_of}
use Rattle.rules.specs.Schedulers.EventRefusals.{refusal_of}
use Rattle.rules.specs.Schedulers.Lazy.{words_of, lazy_call}
use Rattle.rules.specs.Soundness.Sound.{SoundAndSized}
use Rattle.rules.specs.Numbers.Answer.{tested_number, answer_number}
use Rattle.rules.specs.Replays.Step.{after_of, answered, act_of, step_of}
use Rattle.rules.specs.declared.plan.Plan.{Plan}
use Rattle.rules.specs.declared.protocol.Protocol.{Protocol}
use Rattle.rules.specs.declared.state.State.{State}
use Rattle.rules.specs.declared.answer.Stepped.{Stepped}
use Rattle.rules.specs.declared.refusal.Refusal.{Refusal}
use Rattle.rules.specs.declared.event.Event.{Event}
use Rattle.rules.proofs.Soundness.SoundKept.{step_act}

-- an answer's number is that of the tests
pub answered_number : (t : Tested) (s after : State) (call : Bool) → answer_number (answered t s after call).answer ≡ tested_number t
unfolding answered answer_number tested_number
answered_number (Ok _) s after call = refl
answered_number (Err why) s after call = refl

-- a refused event leaves the state
answered_refused : (t : Tested) (s after : State) (call : Bool) (why : Refusal) → (answered t s after call).answer ≡ Err why
    → (answered t s after call).state ≡ s
unfolding answered
answered_refused (Ok _) s after call why e = let z : ◌≡◌ {A = ℕ} 0 1 = cc in absurd (omega arith)
answered_refused (Err _) s after call why e = refl

-- an accepted one says whether it called
answered_call : (t : Tested) (s after : State) (call said : Bool) → (answered t s after call).answer ≡ Ok said → (t ≡ Ok tt) × (said ≡ call)
unfolding answered
answered_call (Ok _) s after call said e = (refl, cc)
answered_call (Err why) s after call said e = let z : ◌≡◌ {A = ℕ} 0 1 = cc in absurd (omega arith)

answered_passed : (t : Tested) (s after : State) (call : Bool) → t ≡ Ok tt → (answered t s after call).answer ≡ Ok call
unfolding answered
answered_passed t s after call e = ap (λ t. (answered t s after call).answer) e

module _ {pr : Protocol} {p : Plan} {s : State} (S : SoundAndSized pr p s) (e : Event) where
  pub step_accepts : refusal_of p (figures_of s) s.head.running e ≡ Ok tt → (step_of pr p s e).answer ≡ Ok (lazy_call (words_of s) e)
  unfolding act_of
  step_accepts z = rw (step_act S e) (answered_passed (refusal_of p (figures_of s) s.head.running e) s (after_of pr p s e) (lazy_call (words_of s) e) z)

  pub step_refused : (why : Refusal) → (step_of pr p s e).answer ≡ Err why → (step_of pr p s e).state ≡ s
  unfolding act_of
  step_refused why h = rw (step_act S e) (answered_refused (refusal_of p (figures_of s) s.head.running e) s (after_of pr p s e) (lazy_call (words_of s) e) why
      (rw (← step_act S e) h))

  pub step_call : (call : Bool) → (step_of pr p s e).answer ≡ Ok call
      → (refusal_of p (figures_of s) s.head.running e ≡ Ok tt) × (call ≡ lazy_call (words_of s) e)
  unfolding act_of
  step_call call h = answered_call (refusal_of p (figures_of s) s.head.running e) s (after_of pr p s e) (lazy_call (words_of s) e) call
      (ap (λ (x : Stepped). x.answer) (sym (step_act S e)) ∙ h)
