-- What is left from here comes to what all of it comes to, and the tournament is that of the state. Assumes nothing.
use Rattle.tournament.specs.Tournament.{IsTournamentOf}
use Rattle.scheduler.specs.Going.{Underway, event_on}
use Rattle.scheduler.proofs.run.run_from.Given as goal

abbrev pub invariant-loop-k : goal.invariant-loop-k
invariant-loop-k l =
    record {
      going : Underway l.protocol l.plan (event_on l.first l.body) l.n l.fn.state l.fn.rows l.k l.state l.rows;
      tree : IsTournamentOf l.plan.tasks l.tree l.state;
    }
