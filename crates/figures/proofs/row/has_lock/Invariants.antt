-- What is left of the row gives the same answer.
use Rattle.std.proofs.Common.{◌≡◌, ◌-◌}
use Rattle.rules.specs.Numbers.Row.{has}
use Rattle.figures.proofs.row.has_lock.Given as goal

abbrev pub invariant-loop : goal.invariant-loop
invariant-loop l = has l.rest (l.k - l.counter) l.l ≡ has l.row l.k l.l
