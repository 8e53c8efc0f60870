-- RULES 1.6, 1.7: jobs, sections and the work of lower tasks, by places in the history of the eager scheduler. Assumes nothing.
use Rattle.std.specs.Prelude.{◌≡◌, Bool, true, false, ◌&&◌, List, ℕ, ◌≤◌, ◌<◌, eqb, ltb, if◌then◌else◌}
use Rattle.rules.specs.Numbers.Place.{at, count, sum_after}
use Rattle.rules.specs.Books.Event.{amount_of}
use Rattle.rules.specs.Demands.History.{event_at, runner_at, accepted_at}
use Rattle.rules.specs.declared.plan.Plan.{Plan}
use Rattle.rules.specs.declared.event.Event.{Event}
use Rattle.rules.specs.declared.event.Event.TheVariants.{Release, Acquire, Unlock, Work, Finish, Tick}

-- the event at place k is e, and it is accepted
pub record Accepted (p : Plan) (es : List Event) (k : ℕ) (e : Event) : Type 0 where
  pub event : event_at es k ≡ e
  pub accepted : accepted_at p es k ≡ true

-- at place k task x runs, and does e
pub record Does (p : Plan) (es : List Event) (k x : ℕ) (e : Event) : Type 0 where
  pub does : Accepted p es k e
  pub runs : runner_at p es k ≡ x

-- whether event e takes lock l, and whether it gives it back
unfoldable pub takes_lock : ℕ → Event → Bool
takes_lock l (Release t) = false
takes_lock l (Acquire m) = eqb m l
takes_lock l (Unlock m) = false
takes_lock l (Work a) = false
takes_lock l Finish = false
takes_lock l Tick = false

unfoldable pub gives_back : ℕ → Event → Bool
gives_back l (Release t) = false
gives_back l (Acquire m) = false
gives_back l (Unlock m) = eqb m l
gives_back l (Work a) = false
gives_back l Finish = false
gives_back l Tick = false

-- the event at place j is accepted, and is an act of task x
unfoldable pub acts_at : Plan → List Event → (x j : ℕ) → Bool
acts_at p es x j = accepted_at p es j && eqb (runner_at p es j) x

-- how often task x took lock l before place k, and how often it gave it back
unfoldable pub taken_count : Plan → List Event → (x l k : ℕ) → ℕ
taken_count p es x l k = count (λ j. acts_at p es x j && takes_lock l (event_at es j)) k

unfoldable pub returned_count : Plan → List Event → (x l k : ℕ) → ℕ
returned_count p es x l k = count (λ j. acts_at p es x j && gives_back l (event_at es j)) k

-- task x has lock l open at place k: it took it more often than it gave it back
abbrev pub HasOpen : Plan → List Event → (x l k : ℕ) → Type 0
HasOpen p es x l k = returned_count p es x l k < taken_count p es x l k

-- the section that task x began at place a, by taking lock l which it had not open, goes on at place k: x has had l open since
pub record Section (p : Plan) (es : List Event) (x l a k : ℕ) : Type 0 where
  pub begun : Does p es a x (Acquire l)
  pub closed : HasOpen p es x l a → ⊥
  pub since : a < k
  pub still : (j : ℕ) → a < j → j ≤ k → HasOpen p es x l j

-- the units that task x works at place k, and at all places after a and before k
unfoldable pub own_units : Plan → List Event → (x k : ℕ) → ℕ
own_units p es x k = if acts_at p es x k then amount_of (event_at es k) else 0

unfoldable pub own_total : Plan → List Event → (x a k : ℕ) → ℕ
own_total p es x a k = sum_after a (own_units p es x) k

-- the job of task t that was released at place i goes on at place k: t has not finished since
pub record Job (p : Plan) (es : List Event) (t i k : ℕ) : Type 0 where
  pub begun : Accepted p es i (Release t)
  pub since : i < k
  pub still : (j : ℕ) → i < j → j < k → Does p es j t Finish → ⊥

-- at place k of that job a task x of lower base works for u units
pub record LowerWork (p : Plan) (es : List Event) (t i k x u : ℕ) : Type 0 where
  pub job : Job p es t i k
  pub works : Does p es k x (Work u)
  pub lower : at p.base x < at p.base t

-- the units that tasks of lower base than t work at place k, and at all places after i and before k
unfoldable pub lower_units : Plan → List Event → ℕ → ℕ → ℕ
lower_units p es t k = if accepted_at p es k && ltb (at p.base (runner_at p es k)) (at p.base t) then amount_of (event_at es k) else 0

unfoldable pub lower_total : Plan → List Event → ℕ → ℕ → ℕ → ℕ
lower_total p es t i k = sum_after i (lower_units p es t) k
