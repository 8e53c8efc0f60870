-- `jobs::text::lock` meets its contract: no digit, one, two, or one too many. Assumes nothing.
use Rattle.std.proofs.Common.{rules}
use Rattle.jobs.proofs.Ways.{digit_within, numbering}
use Rattle.jobs.proofs.text.lock.Goals as goal

pub returns-in_default-clause-numbered : goal.returns-in_default-clause-numbered
returns-in_default-clause-numbered c = search (numbering, rules)

pub returns-in_default-digit-clause-numbered : goal.returns-in_default-digit-clause-numbered
returns-in_default-digit-clause-numbered c = search (numbering, rules)

pub returns-then-first-eq0-clause-numbered : goal.returns-then-first-eq0-clause-numbered
returns-then-first-eq0-clause-numbered c = search (numbering, rules)

pub returns-in-Some-digit-2-clause-numbered : goal.returns-in-Some-digit-2-clause-numbered
returns-in-Some-digit-2-clause-numbered c = search (numbering, rules)

pub returns-in-None-clause-numbered : goal.returns-in-None-clause-numbered
returns-in-None-clause-numbered c = search (numbering, rules)

pub returns-in_default-digit-clause-within : goal.returns-in_default-digit-clause-within
returns-in_default-digit-clause-within c = search (digit_within, rules)

pub returns-then-first-eq0-clause-within : goal.returns-then-first-eq0-clause-within
returns-then-first-eq0-clause-within c = search (digit_within, rules)

pub returns-in-Some-digit-2-clause-within : goal.returns-in-Some-digit-2-clause-within
returns-in-Some-digit-2-clause-within c = search (digit_within, rules)

pub returns-in-None-clause-within : goal.returns-in-None-clause-within
returns-in-None-clause-within c = search (digit_within, rules)
