-- A single step's answer in numbers is what the definitions answer. Assumes nothing.
use Rattle.std.specs.Prelude.{if◌then◌else◌}
use mathlib.Core.Path.{◌≡◌, sym, ◌∙◌, ap, ap₂}
use mathlib.Core.Bool.{Bool, true, false, not}
use Prim.Native.Nat.{ℕ}
use lib.Dec.{eqb}
use borrow.Author.Tests.{ne_eqb}
use Rattle.rules.specs.Numbers.Refusal.{number_of}
use Rattle.rules.specs.Numbers.Answer.{answer_number, answer_calls}
use Rattle.rules.specs.Books.Event.{event_fault, event_of}
use Rattle.rules.specs.Schedulers.Protocol.{protocol_named}
use Rattle.rules.specs.Replays.Step.{step_of}
use Rattle.rules.specs.declared.plan.Plan.{Plan}
use Rattle.rules.specs.declared.protocol.Protocol.{Protocol}
use Rattle.rules.specs.declared.state.State.{State}
use Rattle.rules.specs.declared.event.Event.{Event}
use Rattle.rules.specs.declared.answer.Stepped.{Stepped}
use Rattle.rules.specs.declared.refusal.Refusal.TheVariants.{WrongEvent}
use Rattle.rules.proofs.Numbers.Choice.{if_true, if_false}
use Rattle.device.specs.Device.{step_spelled, no_event, not_stepped, step_from}
use Rattle.device.specs.declared.step.DeviceStep.{DeviceStep}

abbrev step_with : State → ℕ → ℕ → DeviceStep
step_with s n k = record { number = n; calls = k; state = s }

module _ (kind id amount : ℕ) where
  pub work_handed : kind ≡ 4 → (z : Bool) → z ≡ not (eqb id 0) → z ≡ no_event kind id amount
  work_handed e z h = h ∙ ap (λ (k : ℕ). if eqb k 4 then not (eqb id 0) else event_fault kind id amount) (sym e)

  pub other_handed : ¬ (kind ≡ 4) → (z : Bool) → z ≡ event_fault kind id amount → z ≡ no_event kind id amount
  other_handed h z e = e ∙ sym (if_false (eqb kind 4) (not (eqb id 0)) (event_fault kind id amount) (ne_eqb kind 4 h))

  module _ (number : ℕ) (p : Plan) (s : State) (z : Bool) (tests : z ≡ no_event kind id amount) where
    abbrev done : DeviceStep
    done = step_spelled (step_of (protocol_named number) p s (event_of kind id amount))

    pub not_stepped_lem : z ≡ true → (n : ℕ) → n ≡ number_of WrongEvent → step_with s n 0 ≡ step_from number p s kind id amount
    not_stepped_lem h n e = ap (λ m. step_with s m 0) e ∙ sym (if_true (no_event kind id amount) (not_stepped s) done (sym tests ∙ h))

    pub step_said : z ≡ false → (pr : Protocol) → pr ≡ protocol_named number → (e : Event) → e ≡ event_of kind id amount → (d : Stepped) → d ≡ step_of pr p s e
        → (n k : ℕ) → n ≡ answer_number d.answer → k ≡ answer_calls d.answer → step_with d.state n k ≡ step_from number p s kind id amount
    step_said h pr named e q d r n k f g =
        ap₂ (step_with d.state) f g ∙ ap step_spelled (r ∙ ap₂ (λ pr e. step_of pr p s e) named q)
        ∙ sym (if_false (no_event kind id amount) (not_stepped s) done (sym tests ∙ h))
