-- the lines so far are typed
use Rattle.std.proofs.Common.{◌≡◌}
use Rattle.page.specs.Page.{typed}
use Rattle.report.specs.Report.{row_lines}
use Rattle.report.proofs.lines.put_rows.Given as goal

abbrev pub invariant-loop-k : goal.invariant-loop-k
invariant-loop-k l = l.page ≡ typed l.fn.page (row_lines l.rows l.k)
