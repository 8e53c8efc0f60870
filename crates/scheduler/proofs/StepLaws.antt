-- The step of a state that is handed in. Assumes nothing.
use Rattle.std.specs.Prelude.{Ok, Err, if◌then◌else◌}
use Rattle.rules.specs.Numbers.Verdict.{Verdict, Answer, refused_at}
use mathlib.Core.Path.{◌≡◌, refl, sym, ◌∙◌, ap}
use mathlib.Core.Bool.{Bool, true, false}
use mathlib.Core.List.{List}
use Prim.Native.Nat.{ℕ}
use native.Mathlib.Omega.{arith}
use lib.Dec.{eqb}
use lib.ListN.{length}
use Rattle.rules.specs.Numbers.Capacity.{max_tasks, max_locks}
use Rattle.rules.specs.Numbers.Place.{at, from}
use Rattle.rules.specs.Replays.Run.{Ran, onward, run_from}
use Rattle.rules.specs.Soundness.Sound.{SoundAndSized}
use Rattle.rules.specs.Soundness.SoundTest.{sound_test}
use Rattle.rules.specs.Replays.Step.{refused_with, act_of, step_of}
use Rattle.rules.specs.declared.plan.Plan.{Plan}
use Rattle.rules.specs.declared.protocol.Protocol.{Protocol}
use Rattle.rules.specs.declared.state.State.{State}
use Rattle.rules.specs.declared.event.Event.{Event}
use Rattle.rules.specs.declared.refusal.Refusal.{Refusal}
use Rattle.rules.specs.declared.refusal.Refusal.TheVariants.{Unsound}
use Rattle.rules.specs.declared.answer.Stepped.{Stepped}
use Rattle.rules.proofs.Numbers.Choice.{if_yes, if_no}
use Rattle.rules.proofs.Replays.RowBytes.{row_call}
use Rattle.rules.proofs.Soundness.SoundKept.{step_act}
use Rattle.rules.proofs.Soundness.SoundTest.{sound_is}
use Rattle.scheduler.specs.Going.{event_on, answer_from}

-- a state that passes the test, with all its places
pub tested_sound : (pr : Protocol) (p : Plan) (s : State) → sound_test pr p s ≡ true
    → length s.released ≡ max_tasks → length s.kept ≡ max_tasks → length s.delay ≡ max_tasks → length s.depth ≡ max_tasks
    → length s.takes ≡ max_tasks → length s.saved ≡ max_tasks → length s.units ≡ max_locks → length s.owner ≡ max_locks
    → SoundAndSized pr p s
tested_sound pr p s t released kept delay depth takes saved units owner = record {
  figures_sized = record { released = released; delay = delay; depth = depth; takes = takes; units = units };
  words_sized = record { kept = kept; saved = saved; owner = owner };
  sound = (sound_is pr p s).0 t;
}

-- 10 comes first
module _ (pr : Protocol) (p : Plan) (s : State) (e : Event) (r : Stepped) where
  pub step_unsound : false ≡ sound_test pr p s → r ≡ refused_with s Unsound → r ≡ step_of pr p s e
  unfolding step_of
  step_unsound t q = if_no (sound_test pr p s) (act_of pr p s e) (refused_with s Unsound) r (sym t) q

  pub step_sound : true ≡ sound_test pr p s → r ≡ act_of pr p s e → r ≡ step_of pr p s e
  unfolding step_of
  step_sound t q = if_yes (sound_test pr p s) (act_of pr p s e) (refused_with s Unsound) r (sym t) q

-- ---- a step as a run of one event

one_or_none : (call : Bool) → eqb (if call then 1 else 0) 1 ≡ call
one_or_none true = refl
one_or_none false = refl

pub said_passed : (v : Verdict) (call : ℕ) (b : Bool) → v ≡ Ok tt → b ≡ eqb call 1 → Ok b ≡ answer_from v call
unfolding answer_from
said_passed v call b e h = rw (e, h)

pub said_refused : (v : Verdict) (why : Refusal) (place call : ℕ) → v ≡ refused_at why place → Err why ≡ answer_from v call
unfolding answer_from
said_refused v why place call e = rw e

module _ (pr : Protocol) (p : Plan) (s : State) (e : Event) (body row : List ℕ) (four : length row ≡ 4) (S : SoundAndSized pr p s) where
  -- what the run comes to, by the answer
  after : Answer → Ran
  after answer = onward answer (act_of pr p s e).state 0 row (λ t rows. record { verdict = Ok tt; state = t; rows = rows })

  one_run : run_from pr p (from (event_on e body) 0 1) 0 s row ≡ after (act_of pr p s e).answer
  unfolding after run_from from event_on
  one_run = ap (λ (x : Stepped). onward x.answer x.state 0 row (λ t rows. record { verdict = Ok tt; state = t; rows = rows })) (step_act S e)

  answer_is : (answer : Answer) → answer_from (after answer).verdict (at (after answer).rows 3) ≡ answer
  unfolding after onward answer_from
  answer_is (Ok call) =
      ap Ok (ap (λ x. eqb x 1) (row_call row 0 (act_of pr p s e).state.head call (omega (arith, four))) ∙ one_or_none call)
  answer_is (Err why) = refl

  state_is : (answer : Answer) → (after answer).state ≡ (act_of pr p s e).state
  unfolding after onward
  state_is (Ok call) = refl
  state_is (Err why) = refl

  pub stepped_once : (v : Verdict) (t : State) (out : List ℕ) (answer : Answer)
      → record { verdict = v; state = t; rows = out } ≡ run_from pr p (from (event_on e body) 0 1) 0 s row
      → answer ≡ answer_from v (at out 3) → ◌≡◌ {A = Stepped} (record { answer = answer; state = t }) (act_of pr p s e)
  stepped_once v t out answer h a =
      let q : record { verdict = v; state = t; rows = out } ≡ after (act_of pr p s e).answer = h ∙ one_run in
      let x : answer ≡ (act_of pr p s e).answer = a ∙ ap (λ (z : Ran). answer_from z.verdict (at z.rows 3)) q ∙ answer_is (act_of pr p s e).answer in
      let y : t ≡ (act_of pr p s e).state = ap (λ (z : Ran). z.state) q ∙ state_is (act_of pr p s e).answer in
      λ i. record { answer = x i; state = y i }
