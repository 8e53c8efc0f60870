-- What is on the page and what is left make the numbers of all n records.
use Rattle.std.proofs.Common.{◌≡◌, ◌-◌}
use Rattle.page.specs.Page.{typed}
use Rattle.rules.specs.Numbers.Place.{from, tabulate}
use Rattle.jobs.specs.Sheet.{record_in}
use Rattle.texts.proofs.lines.put_records.Given as goal

abbrev pub invariant-loop-i : goal.invariant-loop-i
invariant-loop-i l = typed l.page (from (record_in l.space) l.i (l.n - l.i)) ≡ typed l.fn.page (tabulate l.n (record_in l.space))
