-- RULES 14.3: that the bound is reached, as the code counts it. Assumes nothing.
use Rattle.std.specs.Prelude.{◌≡◌, List, ℕ, ◌*◌, ◌≤◌, length}
use contract.Lifetimes.{Lfts}
use Rattle.rules.specs.Numbers.Place.{at}
use Rattle.rules.specs.Numbers.Answer.{verdict_number}
use Rattle.rules.specs.Books.Book.{plan_in, events_of}
use Rattle.rules.specs.Books.Bytes.{Bytes}
use Rattle.rules.specs.Demands.Job.{Job}
use Rattle.rules.specs.declared.protocol.Protocol.{Protocol}
use Rattle.rules.specs.declared.answer.Replayed.{Replayed}
use Rattle.scheduler.proofs.replay.Reads as replay

-- some book with the plan of b, and of bytes where b is, whose replay by this protocol with enough row space accepts every event, ends in a job of task t and
-- reports n for its delay
pub record Reaching (pr : Protocol) (b : List ℕ) (t n : ℕ) : Type 0 where
  pub book : List ℕ
  pub plan : plan_in book ≡ plan_in b
  pub bytes : Bytes b → Bytes book
  pub released : ℕ
  pub job : Job (plan_in b) (events_of book) t released (length (events_of book))
  pub accepts : (κs : Lfts 2) (lent : _) (left : _) (r : Replayed) → replay.Post κs lent r left → lent.0 ≡ pr → lent.1.0.now ≡ book
      → length (events_of book) * 4 ≤ length lent.1.1.0.now → verdict_number r.verdict ≡ 0
  pub reports : (κs : Lfts 2) (lent : _) (left : _) (r : Replayed) → replay.Post κs lent r left → lent.0 ≡ pr → lent.1.0.now ≡ book
      → length (events_of book) * 4 ≤ length lent.1.1.0.now → at r.state.delay t ≡ n
