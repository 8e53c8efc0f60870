-- RULES 14.2, 14.3, 14.6 to 14.9: a run of `step` from a fresh start by either protocol, call by call, and what is promised of each answer. Assumes nothing.
use Rattle.std.specs.Prelude.{◌≡◌, ◌≢◌, true, List, ℕ, zero, suc, ◌≤◌}
use Rattle.rules.specs.Numbers.Place.{at}
use Rattle.rules.specs.Numbers.Answer.{answer_number, answer_calls, tested_number}
use Rattle.rules.specs.Schedulers.Eager.{eager_test}
use Rattle.rules.specs.Schedulers.Figures.{figures_of, holds, rank_of}
use Rattle.rules.specs.Demands.History.{event_at, eager_at, runner_at, accepted_at, lazy_count, eager_count, delay_count}
use Rattle.rules.specs.Demands.Job.{Section, own_total}
use Rattle.rules.specs.Demands.Demand2.{Covers, Outranked, OwnWord, OwnCall}
use Rattle.rules.specs.Demands.Maximum.{Uncut}
use Rattle.rules.specs.Demands.Again.{TakenAgain}
use Rattle.rules.specs.declared.plan.Plan.{Plan}
use Rattle.rules.specs.declared.protocol.Protocol.{Protocol}
use Rattle.rules.specs.declared.state.State.{State}
use Rattle.rules.specs.declared.event.Event.{Event}
use Rattle.rules.specs.declared.event.Event.TheVariants.{Acquire, Unlock}
use Rattle.rules.specs.declared.answer.Stepped.{Stepped}
use Rattle.rules.proofs.state.fresh.Reads as fresh
use Rattle.plan.proofs.bound.Reads as bound
use Rattle.scheduler.proofs.step.Reads as step

-- what `step` may answer of the event at place k of a list, in state s
abbrev pub StepsTo : Protocol → Plan → List Event → ℕ → State → Stepped → Type 0
StepsTo pr p es k s r = step.Post tt (pr, (p, (s, (event_at es k, tt)))) r (pr, (p, (s, (event_at es k, tt))))

-- calls of `step` have come to state s before place k: `fresh` gives the first state, and each call is handed the state that the one before it answered
unfoldable pub ComesTo : Protocol → Plan → List Event → ℕ → State → Type 0
ComesTo pr p es zero s = fresh.Post tt tt s tt
ComesTo pr p es (suc k) s = (t : State) × (r : Stepped) × ComesTo pr p es k t × StepsTo pr p es k t r × (s ≡ r.state)

-- what is promised of the answer r to the event at place k
pub record StepAt (pr : Protocol) (p : Plan) (es : List Event) (k : ℕ) (r : Stepped) : Type 0 where
  -- the state after it has the eager scheduler's figures; its task runs, the user word is that task's priority, and the second word lies between the priorities
  -- of the others and the user word, and is the protocol's own
  pub figures : figures_of r.state ≡ eager_at p es (suc k)
  pub running : r.state.head.running ≡ runner_at p es (suc k)
  pub user : r.state.head.user.0 ≡ rank_of p (eager_at p es (suc k)) (runner_at p es (suc k))
  pub covers : Covers p (eager_at p es (suc k)) (runner_at p es (suc k)) r.state.head.next.0
  pub at_most : r.state.head.next.0 ≤ r.state.head.user.0
  pub word : OwnWord pr p es (suc k) r.state.head.next.0
  -- and no event has the kernel cut anything there
  pub uncut : Uncut pr p r.state
  -- a lock that the running task has open there can be taken again, and that raises nothing and calls nobody
  pub again : (l : ℕ) → holds (figures_of r.state) r.state.head.running l ≡ true → TakenAgain pr p r.state l
  -- the units of a section that goes on there are what its task worked since it began, and within the limit of its lock
  pub sections : (x l a : ℕ) → Section p es x l a (suc k) → (at r.state.units l ≡ own_total p es x a (suc k)) × (at r.state.units l ≤ at p.limit l)
  -- no lock has two holders; both call counts and each delay are the history's, the lazy calls are no more than the eager ones, and no delay passes the
  -- bound that `plan::bound` gives
  pub one_holder : (x y l : ℕ) → holds (figures_of r.state) x l ≡ true → holds (figures_of r.state) y l ≡ true → x ≡ y
  pub lazy : r.state.head.lazy ≡ lazy_count pr p es (suc k)
  pub eager : r.state.head.eager ≡ eager_count p es (suc k)
  pub fair : r.state.head.lazy ≤ r.state.head.eager
  pub delays : (t : ℕ) → at r.state.delay t ≡ delay_count p es t (suc k)
  pub bounded : (t n : ℕ) → bound.Post tt (p, (t, tt)) n (p, (t, tt)) → at r.state.delay t ≤ n
  -- the answer is the eager scheduler's, and neither 10 nor 17
  pub number : answer_number r.answer ≡ tested_number (eager_test p (eager_at p es k) (event_at es k))
  pub no10 : answer_number r.answer ≢ 10
  pub no17 : answer_number r.answer ≢ 17
  -- an accepted unlock calls once by the protocol's own rule, and in either where another released task strictly outranks the restored priority; an acquire
  -- never calls
  pub once : answer_calls r.answer ≤ 1
  pub unlock : (l : ℕ) → event_at es k ≡ Unlock l → accepted_at p es k ≡ true → OwnCall pr p es k l (answer_calls r.answer)
  pub outranked : (l : ℕ) → event_at es k ≡ Unlock l → accepted_at p es k ≡ true → Outranked p (eager_at p es k) (runner_at p es k) l → answer_calls r.answer ≡ 1
  pub acquire : (l : ℕ) → event_at es k ≡ Acquire l → answer_calls r.answer ≡ 0

-- what is promised of two runs over one list, of which the one by the first protocol has come to the state `first` and the one by the second to `second`: the
-- figures and the running task are the same, and the calls of the first lie between those of the second and the eager ones
pub record SideBySide (first second : State) : Type 0 where
  pub figures : figures_of first ≡ figures_of second
  pub running : first.head.running ≡ second.head.running
  pub fewer : second.head.lazy ≤ first.head.lazy
  pub fair : first.head.lazy ≤ first.head.eager
