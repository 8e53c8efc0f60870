-- The ways through one turn: the event at its place, its answer and its row. Assumes nothing.
use Rattle.std.specs.Prelude.{Ok, Err, if◌then◌else◌}
use Rattle.rules.specs.Numbers.Verdict.{Answer, refused_at}
use mathlib.Core.Path.{◌≡◌, refl, sym, ◌∙◌, ap}
use mathlib.Core.Bool.{Bool, true, false}
use mathlib.Core.List.{List, [], ◌∷◌}
use Prim.Native.Nat.{ℕ, ◌+◌, ◌*◌}
use lib.ListN.{set}
use lib.Dec.{eqb}
use mir.Val.{bool_byte}
use borrow.Author.Tests.{eq-eqb, ne_eqb}
use Rattle.rules.specs.Numbers.Answer.{found_event}
use Rattle.rules.specs.Books.Book.{found_at}
use Rattle.rules.specs.Replays.Run.{Ran, with_row, onward, run_from}
use Rattle.rules.specs.Replays.Step.{act_of}
use Rattle.rules.specs.Soundness.Sound.{SoundAndSized}
use Rattle.rules.specs.declared.plan.Plan.{Plan}
use Rattle.rules.specs.declared.protocol.Protocol.{Protocol}
use Rattle.rules.specs.declared.state.Head.{Head}
use Rattle.rules.specs.declared.state.State.{State}
use Rattle.rules.specs.declared.event.Event.{Event}
use Rattle.rules.specs.declared.event.Event.TheVariants.{Tick}
use Rattle.rules.specs.declared.refusal.Refusal.{Refusal}
use Rattle.rules.specs.declared.answer.Found.{Found}
use Rattle.rules.specs.declared.answer.Stepped.{Stepped}
use Rattle.rules.proofs.Numbers.Choice.{if_yes, if_no}
use Rattle.rules.proofs.Soundness.SoundKept.{step_act}
use Rattle.scheduler.specs.Going.{event_in, event_on}

-- ---- the event at a place

module _ (body : List ℕ) (k : ℕ) (found : Found) (reads : found ≡ found_at body k) where
  pub event_got : (e : Event) (next : ℕ) → found ≡ Found.Got e next → e ≡ event_in body k
  unfolding found_event
  event_got e next h = ap found_event (sym h ∙ reads)

  pub event_refused : (why : Refusal) (place : ℕ) → found ≡ Found.Refused why place → Tick ≡ event_in body k
  unfolding found_event
  event_refused why place h = ap found_event (sym h ∙ reads)

  pub event_end : found ≡ Found.End → Tick ≡ event_in body k
  unfolding found_event
  event_end h = ap found_event (sym h ∙ reads)

module _ (first : Event) (body : List ℕ) (k : ℕ) where
  pub on_first : k ≡ 0 → first ≡ event_on first body k
  unfolding event_on
  on_first h = if_yes (eqb k 0) first (event_in body k) first (eq-eqb k 0 h) refl

  pub on_later : ¬ (k ≡ 0) → (e : Event) → e ≡ event_in body k → e ≡ event_on first body k
  unfolding event_on
  on_later h e q = if_no (eqb k 0) first (event_in body k) e (ne_eqb k 0 h) q

-- ---- its row

call_byte : (call : Bool) → bool_byte call ≡ (if call then 1 else 0)
call_byte true = refl
call_byte false = refl

pub row_put : (rows : List ℕ) (k : ℕ) (h : Head) (call : Bool) (user next last : ℕ) → user ≡ h.user.0 → next ≡ h.next.0 → last ≡ bool_byte call
    → set (set (set (set rows (k * 4) h.running) (k * 4 + 1) user) (k * 4 + 2) next) (k * 4 + 3) last ≡ with_row rows k h call
unfolding with_row
row_put rows k h call user next last u v e = rw (u, v, e, call_byte call)

-- ---- a turn is a run of one event

module _ (pr : Protocol) (p : Plan) (s t : State) (k : ℕ) (rows : List ℕ) (e event : Event) (a : Answer) (S : SoundAndSized pr p s) (h : e ≡ event)
    (d : record { answer = a; state = t } ≡ act_of pr p s e) where
  abbrev pub last : State → List ℕ → Ran
  last s₂ rows₂ = record { verdict = Ok tt; state = s₂; rows = rows₂ }

  one : onward a t k rows last ≡ run_from pr p (event ∷ []) k s rows
  unfolding run_from
  one = ap (λ (x : Stepped). onward x.answer x.state k rows last) (d ∙ ap (act_of pr p s) h ∙ sym (step_act S event))

  pub turn_accepted : (call : Bool) (out : List ℕ) → a ≡ Ok call → out ≡ with_row rows k t.head call
      → last t out ≡ run_from pr p (event ∷ []) k s rows
  unfolding onward
  turn_accepted call out g q = ap (last t) q ∙ sym (ap (λ x. onward x t k rows last) g) ∙ one

  pub turn_refused : (why : Refusal) → a ≡ Err why
      → record { verdict = refused_at why k; state = t; rows = rows } ≡ run_from pr p (event ∷ []) k s rows
  unfolding onward
  turn_refused why g = sym (ap (λ x. onward x t k rows last) g) ∙ one
