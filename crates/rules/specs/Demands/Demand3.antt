-- RULES 14.3 and 14.9, over the history of the eager scheduler: what delays a job, how long, that sections are those of the state and count the work done
-- in them, and that the bound is reached. Assumes nothing.
use Rattle.std.specs.Prelude.{◌≡◌, ◌↔◌, true, ◌&&◌, List, [], ◌∷◌, ℕ, ◌≤◌, ◌<◌, eqb, length, if◌then◌else◌}
use Rattle.rules.specs.Numbers.Place.{at, first_from}
use Rattle.rules.specs.Demands.Bound.{lower_at, may_block, bound_of}
use Rattle.rules.specs.Schedulers.Figures.{holds}
use Rattle.rules.specs.Demands.History.{eager_at, lazy_at, runner_at, accepted_at}
use Rattle.rules.specs.Demands.Job.{Accepted, Does, HasOpen, Section, own_total, Job, LowerWork, lower_units, lower_total}
use Rattle.rules.specs.declared.plan.Plan.{Plan}
use Rattle.rules.specs.declared.protocol.Protocol.{Protocol}
use Rattle.rules.specs.declared.event.Event.{Event}
use Rattle.rules.specs.declared.event.Event.TheVariants.{Release, Acquire, Work, Finish}

-- all work of lower tasks in the job of t that was released at place i belongs to one section, which one task began before the release by taking one lock
-- that it had not open
pub record OneSection (p : Plan) (es : List Event) (t i : ℕ) : Type 0 where
  pub task : ℕ
  pub lock : ℕ
  pub place : ℕ
  pub earlier : place < i
  pub high : at p.base t ≤ at p.ceiling lock
  pub all : (k x u : ℕ) → LowerWork p es t i k x u → (x ≡ task) × Section p es task lock place k

-- what is asked of the job of t that was released at place i
pub record Demand3 (pr : Protocol) (p : Plan) (es : List Event) (t i : ℕ) : Type 0 where
  -- if a lower task works in it, all work of lower tasks in it belongs to one section
  pub one_section : (k x u : ℕ) → LowerWork p es t i k x u → OneSection p es t i
  -- none comes after the job first runs, at place j
  pub none_after : (j k x u : ℕ) → Job p es t i j → runner_at p es j ≡ t → j ≤ k → LowerWork p es t i k x u → ⊥
  -- at each place of the job n units are counted exactly where a lower task works for n units
  pub units : (k n : ℕ) → Job p es t i k → 0 < n → (lower_units p es t k ≡ n) ↔ ((x : ℕ) × LowerWork p es t i k x n)
  -- their sum never passes the bound
  pub bounded : (k : ℕ) → Job p es t i k → lower_total p es t i k ≤ bound_of p t
  -- it is the delay in the state while the job goes on, and after its finish, at place k, until t is released again
  pub counted : (k : ℕ) → Job p es t i k → at (lazy_at pr p es k).delay t ≡ lower_total p es t i k
  pub reported : (k n : ℕ) → Job p es t i k → Does p es k t Finish → k < n → ((j : ℕ) → k < j → j < n → Accepted p es j (Release t) → ⊥)
      → at (lazy_at pr p es n).delay t ≡ lower_total p es t i k

-- ---- sections

-- a lock is open in the state exactly where it is open in the history, and exactly where a section of it goes on there, which is one
pub record SectionsAreOpen (p : Plan) (es : List Event) : Type 0 where
  pub taken : (k x l : ℕ) → (holds (eager_at p es k) x l ≡ true) ↔ HasOpen p es x l k
  pub section : (k x l : ℕ) → (holds (eager_at p es k) x l ≡ true) ↔ ((a : ℕ) × Section p es x l a k)
  pub one : (k x l a b : ℕ) → Section p es x l a k → Section p es x l b k → a ≡ b

-- RULES 14.9: the units in the state of a section that goes on are what its task worked since it began, each counted once, however often the lock was taken;
-- they are within the limit. A lock that nobody has open has none
pub record SectionsCounted (pr : Protocol) (p : Plan) (es : List Event) : Type 0 where
  pub units : (k x l a : ℕ) → Section p es x l a k → at (lazy_at pr p es k).units l ≡ own_total p es x a k
  pub within : (k x l a : ℕ) → Section p es x l a k → own_total p es x a k ≤ at p.limit l
  pub none : (k l : ℕ) → ((x : ℕ) → HasOpen p es x l k → ⊥) → at (lazy_at pr p es k).units l ≡ 0

-- ---- the bound is reached

-- the first lock that may hold up t for as long as the bound, and its first user of lower base
unfoldable pub longest_lock : Plan → ℕ → ℕ
longest_lock p t = first_from (λ l. may_block p (at p.base t) l && eqb (at p.limit l) (bound_of p t)) 0 p.locks

unfoldable pub first_lower : Plan → ℕ → ℕ → ℕ
first_lower p t l = first_from (lower_at p (at p.base t) l) 0 p.tasks

-- release the lower user, acquire the lock, release the task, work the limit; or the release alone for a bound of zero
unfoldable pub worst_case : Plan → ℕ → List Event
worst_case p t =
    if eqb (bound_of p t) 0 then Release t ∷ []
    else Release (first_lower p t (longest_lock p t)) ∷ Acquire (longest_lock p t) ∷ Release t ∷ Work (bound_of p t) ∷ []

-- every event of that list is accepted, t's job goes on at its end, and the delay is then the bound
pub record Reached (pr : Protocol) (p : Plan) (t : ℕ) : Type 0 where
  pub accepted : (k : ℕ) → k < length (worst_case p t) → accepted_at p (worst_case p t) k ≡ true
  pub released : ℕ
  pub job : Job p (worst_case p t) t released (length (worst_case p t))
  pub delay : at (lazy_at pr p (worst_case p t) (length (worst_case p t))).delay t ≡ bound_of p t
