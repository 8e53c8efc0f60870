-- the numbers so far are typed
use Rattle.std.proofs.Common.{◌≡◌, take, map}
use Rattle.page.specs.Decimal.{digits}
use Rattle.page.specs.Page.{typed}
use Rattle.report.specs.Report.{spaced}
use Rattle.report.proofs.lines.put_fields.Given as goal

abbrev pub invariant-loop-x : goal.invariant-loop-x
invariant-loop-x l = l.page ≡ typed l.fn.page (spaced (map digits (take l.x-index l.xs)))
