-- RULES 8.13: what a sound state lets a scheduler leave out at a release and at work, by the greatest priority that is kept (`best`). It need not be a state
-- that a fresh start reaches: the running task may not be the one of greatest priority. Assumes nothing.
use Rattle.std.specs.Prelude.{◌≡◌, ℕ, ◌≤◌, ◌<◌, max}
use Rattle.rules.specs.Numbers.Place.{at}
use Rattle.rules.specs.Schedulers.Protocol.{second_word}
use Rattle.rules.specs.Schedulers.Lazy.{best_kept}
use Rattle.rules.specs.Replays.Step.{after_of}
use Rattle.rules.specs.declared.plan.Plan.{Plan}
use Rattle.rules.specs.declared.protocol.Protocol.{Protocol}
use Rattle.rules.specs.declared.protocol.Protocol.TheVariants.{Second}
use Rattle.rules.specs.declared.state.State.{State}
use Rattle.rules.specs.declared.event.Event.TheVariants.{Release, Work, Tick}

-- a task of the plan that is not released, so that it may arrive
pub record Rests (p : Plan) (s : State) (t : ℕ) : Type 0 where
  pub known : t < p.tasks
  pub unreleased : at s.released t ≡ 0

abbrev best : Plan → State → ℕ
best p s = best_kept s.kept p.tasks

pub record Shortcuts (pr : Protocol) (p : Plan) (s : State) : Type 0 where
  -- a newcomer whose base is not above the user word: the greatest kept priority is then the greater of what it was and that base
  pub waits : (t : ℕ) → Rests p s t → at p.base t ≤ s.head.user.0
      → (after_of pr p s (Release t)).head.next.0 ≡ second_word pr s.head.user.0 (max (best p s) (at p.base t))
  -- a newcomer whose base is above the user word and above all that is kept: it runs at its base, and the greatest kept priority is then the greater of what it
  -- was and the user word that the leaving task had
  pub runs : (t : ℕ) → Rests p s t → s.head.user.0 < at p.base t → best p s < at p.base t
      → ((after_of pr p s (Release t)).head.running ≡ t) × ((after_of pr p s (Release t)).head.user.0 ≡ at p.base t)
      × ((after_of pr p s (Release t)).head.next.0 ≡ second_word pr (at p.base t) (max (best p s) s.head.user.0))
  -- where nothing is kept above the running task's base, work is nobody's delay
  pub spares : (a : ℕ) → best p s ≤ at p.base s.head.running → (after_of pr p s (Work a)).delay ≡ s.delay

-- RULES 9.9: in the second protocol a tick leaves the next word as it was
abbrev pub TickSame : Plan → State → Type 0
TickSame p s = (after_of Second p s Tick).head.next.0 ≡ s.head.next.0
