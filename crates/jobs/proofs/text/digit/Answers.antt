-- `jobs::text::digit` meets its contract: a digit, a byte below them, and one above. Assumes nothing.
use Rattle.std.proofs.Common.{rules}
use Rattle.jobs.proofs.Ways.{digit_low, digit_high, digit_is}
use Rattle.jobs.proofs.text.digit.Goals as goal

pub returns-in-48-to-57-clause-value : goal.returns-in-48-to-57-clause-value
returns-in-48-to-57-clause-value c = search (digit_is, rules)

pub returns-in_default-clause-value : goal.returns-in_default-clause-value
returns-in_default-clause-value c = search (digit_low, digit_high, rules)

pub returns-in_default-2-clause-value : goal.returns-in_default-2-clause-value
returns-in_default-2-clause-value c = search (digit_low, digit_high, rules)
