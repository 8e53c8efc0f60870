-- The first k lines are on the page.
use Rattle.std.proofs.Common.{◌≡◌}
use Rattle.page.specs.Page.{typed}
use Rattle.office.specs.Show.{lock_lines}
use Rattle.office.proofs.show.put_locks.Given as goal

abbrev pub invariant-loop-k : goal.invariant-loop-k
invariant-loop-k l = l.page ≡ typed l.fn.page (lock_lines l.b l.k)
