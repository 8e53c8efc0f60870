-- The tournament of a state's tasks. Assumes nothing.
use Rattle.std.specs.Prelude.{◌≡◌, ℕ, length}
use Rattle.rules.specs.Numbers.Capacity.{max_tasks}
use Rattle.rules.specs.declared.state.State.{State}
use Rattle.tournament.specs.Keys.{tournament_of}
use Rattle.tournament.specs.declared.tree.Tournament.{Tournament}

-- it is of n tasks, by the state's release numbers and kept priorities
pub record IsTournamentOf (n : ℕ) (tree : Tournament) (s : State) : Type 0 where
  pub tasks : tree.tasks ≡ n
  pub keys : tree.keys ≡ tournament_of n s.released s.kept
  pub sized : length s.kept ≡ max_tasks
