-- RULES 8: the conditions of soundness, each by name. Assumes nothing.
use Rattle.std.specs.Prelude.{◌≡◌, ◌≢◌, true, false, ℕ, zero, suc, ◌≤◌, ◌<◌, ◌^◌, eqb, if◌then◌else◌}
use Rattle.rules.specs.Numbers.Capacity.{max_takes, max_accepted, max_delay, nobody}
use Rattle.rules.specs.Numbers.Place.{at, greatest}
use Rattle.rules.specs.Numbers.Row.{saves}
use Rattle.rules.specs.Books.Plan.{Obeys, declares}
use Rattle.rules.specs.Schedulers.Figures.{Figures, Sized, figures_of, holds, rank_of}
use Rattle.rules.specs.Schedulers.Lazy.{Words, WordsSized, words_of}
use Rattle.rules.specs.declared.plan.Plan.{Plan}
use Rattle.rules.specs.declared.protocol.Protocol.{Protocol}
use Rattle.rules.specs.declared.protocol.Protocol.TheVariants.{Second, First}
use Rattle.rules.specs.declared.state.State.{State}

-- what the figures obey
pub record SoundFigures (p : Plan) (f : Figures) : Type 0 where
  -- RULES 8.4, 8.5: no more events were accepted than may be; a release number is one of theirs, and no two released tasks have the same
  pub events : f.accepted ≤ max_accepted
  pub numbers : (x : ℕ) → at f.released x ≤ f.accepted
  pub differ : (x y : ℕ) → 0 < at f.released x → at f.released x ≡ at f.released y → x ≡ y
  -- RULES 8.4: no more eager calls than accepted events
  pub eager : f.eager ≤ f.accepted
  -- RULES 8.6: a row is no longer than it may be; an open lock is one of the plan's that its task may take; who is not released has no takes
  pub depth : (x : ℕ) → at f.depth x ≤ max_takes
  pub known : (x l : ℕ) → holds f x l ≡ true → l < p.locks
  pub declared : (x l : ℕ) → holds f x l ≡ true → declares p x l ≡ true
  pub resting : (x : ℕ) → at f.released x ≡ 0 → at f.depth x ≡ 0
  -- RULES 8.7: no lock is open for two tasks
  pub alone : (x y l : ℕ) → holds f x l ≡ true → holds f y l ≡ true → x ≡ y
  -- RULES 8.8, 8.9: units are within the limit, and delays within their own greatest value
  pub limits : (l : ℕ) → at f.units l ≤ at p.limit l
  pub delays : (x : ℕ) → at f.delay x ≤ max_delay
  -- RULES 8.8, 8.11: a closed lock has no units; unused places of a row are 0, and so are places past the last task
  pub closed : (l : ℕ) → ((x : ℕ) → holds f x l ≡ false) → at f.units l ≡ 0
  pub places : (x : ℕ) → at f.takes x < 256 ^ at f.depth x
  pub no_task : (x : ℕ) → p.tasks ≤ x → (at f.released x ≡ 0) × (at f.delay x ≡ 0)

-- the kept priority of task x where r runs: the running task's is 0, and so is an unreleased one's
unfoldable pub kept_of : Plan → Figures → ℕ → ℕ → ℕ
kept_of p f r x = if eqb x r then 0 else rank_of p f x

-- the saved priorities of task x
unfoldable pub saved_of : Plan → Figures → ℕ → ℕ
saved_of p f x = saves (at p.ceiling) (at p.base x) (at f.takes x) (at f.depth x)

-- of the first n tasks the one that has lock l open, plus one; 0 without one
unfoldable pub owner_of : Figures → ℕ → ℕ → ℕ
owner_of f zero l = 0
owner_of f (suc k) l = if holds f k l then suc k else owner_of f k l

-- RULES 8.10: what the second word obeys beside the user word and the greatest kept priority: the next word is that priority, and the kernel word is at
-- most the user word
unfoldable pub SoundSecond : Protocol → (second user best : ℕ) → Type 0
SoundSecond Second second user best = second ≡ best
SoundSecond First second user best = second ≤ user

-- what the words obey, given the figures
pub record SoundWords (pr : Protocol) (p : Plan) (f : Figures) (w : Words) : Type 0 where
  -- RULES 8.3: where nobody runs none is released, and a task that runs is released
  pub idle : w.running ≡ nobody → (x : ℕ) → at f.released x ≡ 0
  pub runs : w.running ≢ nobody → 0 < at f.released w.running
  -- RULES 8.10: the user word, the next word, and what is kept and saved for each task follow from who runs and from the takes
  pub user : w.user ≡ rank_of p f w.running
  pub next : SoundSecond pr w.next w.user (greatest (kept_of p f w.running) p.tasks)
  pub kept : (x : ℕ) → at w.kept x ≡ kept_of p f w.running x
  pub saved : (x : ℕ) → at w.saved x ≡ saved_of p f x
  -- the owner of a lock is the task whose row it stands in
  pub owner : (l : ℕ) → at w.owner l ≡ owner_of f p.tasks l
  -- RULES 8.4: no more lazy calls than accepted events
  pub lazy : w.lazy ≤ f.accepted

pub record Sound (pr : Protocol) (p : Plan) (s : State) : Type 0 where
  pub plan : Obeys p
  pub figures : SoundFigures p (figures_of s)
  pub words : SoundWords pr p (figures_of s) (words_of s)

-- a sound state, with a place for every task and every lock that a plan may have, as its types say
pub record SoundAndSized (pr : Protocol) (p : Plan) (s : State) : Type 0 where
  pub figures_sized : Sized (figures_of s)
  pub words_sized : WordsSized (words_of s)
  pub sound : Sound pr p s
