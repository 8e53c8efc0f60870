-- RULES 14.2, 14.3, 14.6, 14.7 and 14.9, said of what the replay of a book returns: its rows, its verdict and its state. Assumes nothing.
use Rattle.std.specs.Prelude.{◌≡◌, ◌≢◌, ◌↔◌, true, List, ℕ, suc, ◌+◌, ◌*◌, ◌≤◌, ◌<◌, length}
use Rattle.rules.specs.Numbers.Capacity.{nobody}
use Rattle.rules.specs.Numbers.Place.{at}
use Rattle.rules.specs.Numbers.Answer.{tested_number, verdict_number, verdict_place}
use Rattle.rules.specs.Books.Book.{plan_in, events_of, check_of}
use Rattle.rules.specs.Books.Bytes.{Bytes}
use Rattle.rules.specs.Schedulers.Figures.{figures_of, holds, rank_of}
use Rattle.rules.specs.Schedulers.Eager.{eager_test}
use Rattle.rules.specs.Replays.Run.{Ran}
use Rattle.rules.specs.Replays.Replay.{replay_of}
use Rattle.rules.specs.Demands.Bound.{bound_of}
use Rattle.rules.specs.Demands.History.{event_at, eager_at, lazy_at, runner_at, accepted_at, calls_at}
use Rattle.rules.specs.Demands.History.{lazy_count, eager_count, delay_count}
use Rattle.rules.specs.Demands.Job.{Accepted, Does, Job, lower_total}
use Rattle.rules.specs.Demands.Demand2.{Foremost, Covers, Outranked, OwnWord, OwnCall}
use Rattle.rules.specs.Demands.Demand3.{Demand3, SectionsCounted}
use Rattle.rules.specs.declared.plan.Plan.{Plan}
use Rattle.rules.specs.declared.protocol.Protocol.{Protocol}
use Rattle.rules.specs.declared.protocol.Protocol.TheVariants.{Second, First}
use Rattle.rules.specs.declared.event.Event.{Event}
use Rattle.rules.specs.declared.event.Event.TheVariants.{Release, Acquire, Unlock, Finish}

-- RULES 12.4: what the four bytes of the event at place k say
pub record RowAt (pr : Protocol) (p : Plan) (es : List Event) (k : ℕ) (task user next call : ℕ) : Type 0 where
  -- after the event the eager scheduler's task runs: the foremost one, ties to the earlier release, and nobody exactly where none is released
  pub runs : task ≡ runner_at p es (suc k)
  pub foremost : task ≢ nobody → Foremost p (eager_at p es (suc k)) task
  pub idle : task ≡ nobody → (x : ℕ) → at (eager_at p es (suc k)).released x ≡ 0
  -- the user word is its priority, 0 with nobody, and at most its maximum; the second word is at least that of every other released task, and at most the user
  -- word
  pub own : user ≡ rank_of p (eager_at p es (suc k)) (runner_at p es (suc k))
  pub below : user ≤ at p.maximum task
  pub covers : Covers p (eager_at p es (suc k)) (runner_at p es (suc k)) next
  pub at_most : next ≤ user
  pub word : OwnWord pr p es (suc k) next
  -- the calls are those that the protocol's rule asks for: one at the most; one for an unlock by that rule, and in either where another released task is
  -- strictly above the restored priority; and none for an acquire
  pub due : call ≡ calls_at pr p es k
  pub once : call ≤ 1
  pub unlock : (l : ℕ) → event_at es k ≡ Unlock l → OwnCall pr p es k l call
  pub outranked : (l : ℕ) → event_at es k ≡ Unlock l → Outranked p (eager_at p es k) (runner_at p es k) l → call ≡ 1
  pub acquire : (l : ℕ) → event_at es k ≡ Acquire l → call ≡ 0

-- RULES 12.3: what the run of a list from a fresh start comes to, with row space `rows`, where its state reports a accepted events
pub record RanUpTo (pr : Protocol) (p : Plan) (es : List Event) (rows : List ℕ) (ran : Ran) (a : ℕ) : Type 0 where
  -- they are the events before place a, and the state is the one before that place
  pub within : a ≤ length es
  pub accepted : (k : ℕ) → k < a → accepted_at p es k ≡ true
  pub state : ran.state ≡ lazy_at pr p es a
  -- nothing is refused exactly where these are all the events; else the event at place a is, with the number that the eager scheduler gives it,
  -- which is neither 10 nor 17
  pub passed : (verdict_number ran.verdict ≡ 0) ↔ (a ≡ length es)
  pub number : a < length es → verdict_number ran.verdict ≡ tested_number (eager_test p (eager_at p es a) (event_at es a))
  pub place : a < length es → verdict_place ran.verdict ≡ a
  pub no10 : verdict_number ran.verdict ≢ 10
  pub no17 : verdict_number ran.verdict ≢ 17
  -- each accepted event has its row, and all other row bytes stay
  pub written : (k : ℕ) → k < a
      → RowAt pr p es k (at ran.rows (k * 4)) (at ran.rows (k * 4 + 1)) (at ran.rows (k * 4 + 2)) (at ran.rows (k * 4 + 3))
  pub stay : (i : ℕ) → a * 4 ≤ i → at ran.rows i ≡ at rows i
  pub size : length ran.rows ≡ length rows
  -- no lock has two holders; both call counts are the history's, and the lazy one is no greater than the eager one
  pub one_holder : (x y l : ℕ) → holds (figures_of ran.state) x l ≡ true → holds (figures_of ran.state) y l ≡ true → x ≡ y
  pub lazy : ran.state.head.lazy ≡ lazy_count pr p es a
  pub eager : ran.state.head.eager ≡ eager_count p es a
  pub fair : ran.state.head.lazy ≤ ran.state.head.eager
  -- demand 3 holds of every job, and sections count the work done in them; each delay is the history's count, and never passes the bound
  pub jobs : (t i : ℕ) → Accepted p es i (Release t) → Demand3 pr p es t i
  pub sections : SectionsCounted pr p es
  pub delays : (t : ℕ) → at ran.state.delay t ≡ delay_count p es t a
  pub bounded : (t : ℕ) → at ran.state.delay t ≤ bound_of p t
  -- the delay of a job that goes on at the end is the work of lower tasks in it so far; of one that finished at place k, and whose task was not
  -- released again, that work up to its finish
  pub counted : (t i : ℕ) → Job p es t i a → at ran.state.delay t ≡ lower_total p es t i a
  pub reported : (t i k : ℕ) → Job p es t i k → Does p es k t Finish → k < a → ((j : ℕ) → k < j → j < a → Accepted p es j (Release t) → ⊥)
      → at ran.state.delay t ≡ lower_total p es t i k

-- the run of a list is accepted whole, t's job goes on at its end, and the delay that is reported is the bound
pub record Reaches (p : Plan) (es : List Event) (t : ℕ) (ran : Ran) : Type 0 where
  pub verdict : verdict_number ran.verdict ≡ 0
  pub released : ℕ
  pub job : Job p es t released (length es)
  pub delay : at ran.state.delay t ≡ bound_of p t

-- RULES 14.3, its last point: some book with the plan of b, and of bytes where b is, whose replay with enough row space reaches the bound of t
pub record BookReaches (pr : Protocol) (b : List ℕ) (t : ℕ) : Type 0 where
  pub book : List ℕ
  pub plan : plan_in book ≡ plan_in b
  pub bytes : Bytes b → Bytes book
  pub replay : (rows : List ℕ) → length (events_of book) * 4 ≤ length rows → Reaches (plan_in b) (events_of book) t (replay_of pr book rows)

-- what is promised of the replay of a book b with row space `rows`
pub record Promised (pr : Protocol) (b rows : List ℕ) : Type 0 where
  -- where none of 1 to 9 and 24 refuses it (demand 1), its events run; the state says how many were accepted
  pub ran : verdict_number (check_of b (length rows)) ≡ 0
      → RanUpTo pr (plan_in b) (events_of b) rows (replay_of pr b rows) (replay_of pr b rows).state.head.accepted
  -- and the bound of every task of its plan is reached
  pub reached : verdict_number (check_of b (length rows)) ≡ 0 → (t : ℕ) → t < (plan_in b).tasks → BookReaches pr b t

-- RULES 14.6: what is promised of the replays of one book by both protocols, with the same row space
pub record Compared (first second : Ran) : Type 0 where
  -- the same is refused, and the states have the same figures and the same running task
  pub number : verdict_number first.verdict ≡ verdict_number second.verdict
  pub place : verdict_place first.verdict ≡ verdict_place second.verdict
  pub figures : figures_of first.state ≡ figures_of second.state
  pub running : first.state.head.running ≡ second.state.head.running
  -- the calls of the first lie between those of the second and the eager ones
  pub fewer : second.state.head.lazy ≤ first.state.head.lazy
  pub fair : first.state.head.lazy ≤ first.state.head.eager

abbrev pub BothReplayed : List ℕ → List ℕ → Type 0
BothReplayed b rows = Compared (replay_of First b rows) (replay_of Second b rows)
