-- The first k lines are on the page.
use Rattle.std.proofs.Common.{◌≡◌}
use Rattle.page.specs.Page.{typed}
use Rattle.office.specs.Show.{event_lines}
use Rattle.office.proofs.show.put_events.Given as goal

abbrev pub invariant-loop-k : goal.invariant-loop-k
invariant-loop-k l = l.page ≡ typed l.fn.page (event_lines l.b l.run.verdict l.run.accepted l.run.rows.now l.k)
