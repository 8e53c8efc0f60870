-- The calls of the first k events are on the page.
use Rattle.std.proofs.Common.{◌≡◌}
use Rattle.page.specs.Page.{typed}
use Rattle.office.specs.Explain.{call_lines}
use Rattle.office.proofs.explain.put_calls.Given as goal

abbrev pub invariant-loop-k : goal.invariant-loop-k
invariant-loop-k l = l.page ≡ typed l.fn.page (call_lines l.b l.rows l.k)
