-- `jobs::text::units` meets its contract. The digits so far make the value. Assumes nothing.
use Rattle.std.proofs.Common.{rules}
use Rattle.jobs.proofs.Ways.{counting, count_first, count_next, digit_within, digit_less}
use Rattle.jobs.proofs.text.units.Goals as goal

pub returns-in-None-clause-counted : goal.returns-in-None-clause-counted
returns-in-None-clause-counted c = search (counting, rules)

pub returns-in-None-2-clause-counted : goal.returns-in-None-2-clause-counted
returns-in-None-2-clause-counted c = search (counting, rules)

pub returns-then-value-gt-MAX_UNITS-clause-counted : goal.returns-then-value-gt-MAX_UNITS-clause-counted
returns-then-value-gt-MAX_UNITS-clause-counted c = search (counting, rules)

pub returns-clause-counted : goal.returns-clause-counted
returns-clause-counted c = search (counting, rules)

pub loop-d-init : goal.loop-d-init
loop-d-init c = (search rules, search (digit_within, rules), search rules, search rules, search (count_first, rules))

pub loop-d-preserved : goal.loop-d-preserved
loop-d-preserved c = (search rules, search (digit_within, rules), search rules, search rules, search (count_next, rules))

pub loop-d-smaller : goal.loop-d-smaller
loop-d-smaller c = search (digit_less, rules)
