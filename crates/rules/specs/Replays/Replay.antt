-- RULES 12.2, 12.3: the replay of a book: 1 to 9 and 24 first, and then its events from a fresh start. Assumes nothing.
use Rattle.std.specs.Prelude.{List, ℕ, length, Ok, Err}
use Rattle.rules.specs.Numbers.Verdict.{Verdict}
use Rattle.rules.specs.Schedulers.State.{fresh_of}
use Rattle.rules.specs.Books.Book.{plan_in, events_of, check_of}
use Rattle.rules.specs.Replays.Run.{Ran, run_from}
use Rattle.rules.specs.declared.plan.Plan.{Plan}
use Rattle.rules.specs.declared.protocol.Protocol.{Protocol}
use Rattle.rules.specs.declared.event.Event.{Event}
use Rattle.rules.specs.declared.answer.Replayed.{Replayed}

-- RULES 5.8: beside a refusal of 1 to 9 or 24 there is no state but the fresh one, and the rows are as they were
unfoldable pub replay_as : Protocol → Verdict → Plan → List Event → List ℕ → Ran
replay_as pr (Ok _) p es rows = run_from pr p es 0 fresh_of rows
replay_as pr (Err f) p es rows = record { verdict = Err f; state = fresh_of; rows = rows }

unfoldable pub replay_of : Protocol → List ℕ → List ℕ → Ran
replay_of pr b rows = replay_as pr (check_of b (length rows)) (plan_in b) (events_of b) rows

-- the answer of a replay and the row bytes that it leaves, as one
abbrev pub ran_as : Replayed → List ℕ → Ran
ran_as r rows = record { verdict = r.verdict; state = r.state; rows = rows }
