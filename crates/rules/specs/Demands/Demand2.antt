-- RULES 14.2: the lazy scheduler, by either protocol, does what the eager one does. Said of place k of a list of events from a fresh start, before its event;
-- so it speaks of every moment of every list. Assumes nothing.
use Rattle.std.specs.Prelude.{◌≡◌, ◌≢◌, ◌↔◌, true, List, ℕ, ◌≤◌, ◌<◌}
use Rattle.rules.specs.Numbers.Capacity.{nobody}
use Rattle.rules.specs.Numbers.Place.{at}
use Rattle.rules.specs.Schedulers.Figures.{Figures, figures_of, holds, priority_of, rank_of}
use Rattle.rules.specs.Schedulers.FiguresAfter.{figures_after}
use Rattle.rules.specs.Schedulers.Eager.{eager_test}
use Rattle.rules.specs.Soundness.Sound.{kept_of, saved_of}
use Rattle.rules.specs.Replays.Step.{step_of}
use Rattle.rules.specs.Numbers.Answer.{tested_number, answer_number, answer_calls}
use Rattle.rules.specs.Demands.History.{event_at, eager_at, lazy_at, runner_at, accepted_at, restored_of, kernel_at, lazy_count, eager_count}
use Rattle.rules.specs.declared.plan.Plan.{Plan}
use Rattle.rules.specs.declared.protocol.Protocol.{Protocol}
use Rattle.rules.specs.declared.protocol.Protocol.TheVariants.{Second, First}
use Rattle.rules.specs.declared.event.Event.{Event}
use Rattle.rules.specs.declared.event.Event.TheVariants.{Acquire, Unlock}

-- task r is released, no released task has a greater priority, and those released earlier have smaller ones
pub record Foremost (p : Plan) (f : Figures) (r : ℕ) : Type 0 where
  pub released : 0 < at f.released r
  pub greatest : (y : ℕ) → 0 < at f.released y → priority_of p f y ≤ priority_of p f r
  pub earliest : (y : ℕ) → 0 < at f.released y → at f.released y < at f.released r → priority_of p f y < priority_of p f r

-- w is at least the priority of every released task other than r
abbrev pub Covers : Plan → Figures → ℕ → ℕ → Type 0
Covers p f r w = (y : ℕ) → y ≢ r → 0 < at f.released y → priority_of p f y ≤ w

-- w is the greatest priority of the released tasks other than r, and 0 without one
pub record NextWord (p : Plan) (f : Figures) (r w : ℕ) : Type 0 where
  pub all : Covers p f r w
  pub least : (v : ℕ) → Covers p f r v → w ≤ v

-- after an unlock by task r another released task strictly outranks r's restored priority
abbrev pub Outranked : Plan → Figures → ℕ → ℕ → Type 0
Outranked p f r l = (y : ℕ) × (y ≢ r) × (0 < at f.released y) × (priority_of p (figures_after p f r (Unlock l)) r < priority_of p f y)

-- what is the protocol's own of the second word at place k: the next word is the greatest priority of the others, and the kernel word is the history's
unfoldable pub OwnWord : Protocol → Plan → List Event → ℕ → (word : ℕ) → Type 0
OwnWord Second p es k word = NextWord p (eager_at p es k) (runner_at p es k) word
OwnWord First p es k word = word ≡ kernel_at p es k

-- and of the calls of an accepted unlock of l there: one call exactly where another released task is strictly above the restored priority, or exactly where
-- the kernel word is
unfoldable pub OwnCall : Protocol → Plan → List Event → ℕ → (l call : ℕ) → Type 0
OwnCall Second p es k l call = (call ≡ 1) ↔ Outranked p (eager_at p es k) (runner_at p es k) l
OwnCall First p es k l call = (call ≡ 1) ↔ (restored_of p (eager_at p es k) l < kernel_at p es k)

pub record Demand2 (pr : Protocol) (p : Plan) (es : List Event) (k : ℕ) : Type 0 where
  -- the lazy scheduler runs the eager scheduler's task, in a state with the same figures
  pub figures : figures_of (lazy_at pr p es k) ≡ eager_at p es k
  pub running : (lazy_at pr p es k).head.running ≡ runner_at p es k
  -- which is the foremost one, and nobody exactly where none is released
  pub foremost : runner_at p es k ≢ nobody → Foremost p (eager_at p es k) (runner_at p es k)
  pub idle : runner_at p es k ≡ nobody → (x : ℕ) → at (eager_at p es k).released x ≡ 0
  -- the user word, and the kept and saved priorities, are those of RULES 7.4 to 7.6; the second word is at least the priority of every other released task,
  -- and at most the user word
  pub user : (lazy_at pr p es k).head.user.0 ≡ rank_of p (eager_at p es k) (runner_at p es k)
  pub covers : Covers p (eager_at p es k) (runner_at p es k) (lazy_at pr p es k).head.next.0
  pub at_most : (lazy_at pr p es k).head.next.0 ≤ (lazy_at pr p es k).head.user.0
  pub word : OwnWord pr p es k (lazy_at pr p es k).head.next.0
  pub kept : (x : ℕ) → at (lazy_at pr p es k).kept x ≡ kept_of p (eager_at p es k) (runner_at p es k) x
  pub saved : (x : ℕ) → at (lazy_at pr p es k).saved x ≡ saved_of p (eager_at p es k) x
  -- both schedulers accept and refuse the same events with the same numbers
  pub answers : answer_number (step_of pr p (lazy_at pr p es k) (event_at es k)).answer ≡ tested_number (eager_test p (eager_at p es k) (event_at es k))
  -- no lock has two holders; 10 and 17 never occur
  pub one_holder : (x y l : ℕ) → holds (eager_at p es k) x l ≡ true → holds (eager_at p es k) y l ≡ true → x ≡ y
  pub no10 : answer_number (step_of pr p (lazy_at pr p es k) (event_at es k)).answer ≢ 10
  pub no17 : answer_number (step_of pr p (lazy_at pr p es k) (event_at es k)).answer ≢ 17
  -- an event is one call or none; an accepted unlock is one by the protocol's own rule, and in either where another released task is strictly above the
  -- restored priority; no acquire is a call
  pub unlock : (l : ℕ) → event_at es k ≡ Unlock l → accepted_at p es k ≡ true
      → OwnCall pr p es k l (answer_calls (step_of pr p (lazy_at pr p es k) (event_at es k)).answer)
  pub outranked : (l : ℕ) → event_at es k ≡ Unlock l → accepted_at p es k ≡ true → Outranked p (eager_at p es k) (runner_at p es k) l
      → answer_calls (step_of pr p (lazy_at pr p es k) (event_at es k)).answer ≡ 1
  pub calls : answer_calls (step_of pr p (lazy_at pr p es k) (event_at es k)).answer ≤ 1
  pub acquire : (l : ℕ) → event_at es k ≡ Acquire l → answer_calls (step_of pr p (lazy_at pr p es k) (event_at es k)).answer ≡ 0
  -- both call counts in the state are the counts over the history
  pub lazy : (lazy_at pr p es k).head.lazy ≡ lazy_count pr p es k
  pub eager : (lazy_at pr p es k).head.eager ≡ eager_count p es k
