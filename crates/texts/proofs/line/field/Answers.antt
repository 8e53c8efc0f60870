-- `texts::line::field` meets its contract. A record has the number, or not. Assumes nothing.
use Rattle.std.proofs.Common.{rules}
use Rattle.texts.proofs.Said.{field_some, field_none, after_some, after_none}
use Rattle.texts.proofs.line.field.Goals as goal

pub returns-then-w-fields-clause-number : goal.returns-then-w-fields-clause-number
returns-then-w-fields-clause-number c = search (field_none, rules)

pub returns-then-w-fields-clause-rest : goal.returns-then-w-fields-clause-rest
returns-then-w-fields-clause-rest c = search (after_none, rules)

pub returns-clause-number : goal.returns-clause-number
returns-clause-number c = search (field_some, rules)

pub returns-clause-rest : goal.returns-clause-rest
returns-clause-rest c = search (after_some, rules)
