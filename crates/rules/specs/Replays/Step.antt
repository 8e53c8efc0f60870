-- RULES 12.1: a single step, whatever plan, state and event are handed in. Assumes nothing.
use Rattle.std.specs.Prelude.{Bool, Ok, Err, if◌then◌else◌}
use Rattle.rules.specs.Numbers.Verdict.{Tested}
use Rattle.rules.specs.Schedulers.Figures.{figures_of}
use Rattle.rules.specs.Schedulers.EventRefusals.{refusal_of}
use Rattle.rules.specs.Schedulers.FiguresAfter.{figures_after}
use Rattle.rules.specs.Schedulers.Lazy.{words_of, state_of, words_after, lazy_call}
use Rattle.rules.specs.Soundness.SoundTest.{sound_test}
use Rattle.rules.specs.declared.plan.Plan.{Plan}
use Rattle.rules.specs.declared.protocol.Protocol.{Protocol}
use Rattle.rules.specs.declared.state.State.{State}
use Rattle.rules.specs.declared.event.Event.{Event}
use Rattle.rules.specs.declared.refusal.Refusal.{Refusal}
use Rattle.rules.specs.declared.refusal.Refusal.TheVariants.{Unsound}
use Rattle.rules.specs.declared.answer.Stepped.{Stepped}

-- a refusal of 10 to 22 beside the state that was given
abbrev pub refused_with : State → Refusal → Stepped
refused_with s why = record { answer = Err why; state = s }

-- the state after an accepted event
unfoldable pub after_of : Protocol → Plan → State → Event → State
after_of pr p s e =
    state_of (figures_after p (figures_of s) s.head.running e)
    (words_after pr p (figures_of s) (figures_after p (figures_of s) s.head.running e).released (words_of s) e)

unfoldable pub answered : Tested → State → State → Bool → Stepped
answered (Ok _) s after call = record { answer = Ok call; state = after }
answered (Err why) s after call = refused_with s why

-- the step of a sound state: 11 to 22, or the event is accepted
unfoldable pub act_of : Protocol → Plan → State → Event → Stepped
act_of pr p s e = answered (refusal_of p (figures_of s) s.head.running e) s (after_of pr p s e) (lazy_call (words_of s) e)

-- 10 comes first
unfoldable pub step_of : Protocol → Plan → State → Event → Stepped
step_of pr p s e = if sound_test pr p s then act_of pr p s e else refused_with s Unsound
