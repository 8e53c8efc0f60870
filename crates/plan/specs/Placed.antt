-- RULES 3.2: every use names one of n tasks and one of m locks. Assumes nothing.
use Rattle.std.specs.Prelude.{List, ℕ, ◌<◌, length}
use Rattle.rules.specs.Numbers.Place.{at}
use Rattle.rules.specs.Books.Load.{use_task, use_lock}

unfoldable pub Placed : (n m : ℕ) → List ℕ → Type 0
Placed n m uses = (i : ℕ) → i < length uses → (use_task (at uses i) < n) × (use_lock (at uses i) < m)
