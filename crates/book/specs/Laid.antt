-- RULES 4.2, 4.3: a book whose contents pass 1 to 3: it has them, its counts are in range, and its bodies lie one after the other up to its end.
-- Assumes nothing.
use Rattle.std.specs.Prelude.{◌≡◌, List, ℕ, ◌≤◌, length}
use Rattle.rules.specs.Numbers.Capacity.{max_tasks, max_locks, max_uses}
use Rattle.rules.specs.Books.Book.{contents, count_at, body_at}

pub record Laid (b : List ℕ) : Type 0 where
  pub whole : contents ≤ length b
  pub tasks : count_at b 0 ≤ max_tasks
  pub locks : count_at b 1 ≤ max_locks
  pub uses : count_at b 2 ≤ max_uses
  pub ends : body_at b 4 ≡ length b
