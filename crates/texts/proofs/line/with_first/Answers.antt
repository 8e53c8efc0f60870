-- `texts::line::with_first` meets its contract. The number, or what is wrong. Assumes nothing.
use Rattle.std.proofs.Common.{rules}
use Rattle.texts.proofs.Said.{field_within, first_value, first_wrong_lem}
use Rattle.texts.proofs.line.with_first.Goals as goal

pub with_second-requires : goal.with_second-requires
with_second-requires c = search (field_within, rules)

pub returns-in-Ok-default : goal.returns-in-Ok-default
returns-in-Ok-default c = search (first_value, rules)

pub returns-in-Err-default : goal.returns-in-Err-default
returns-in-Err-default c = search (first_wrong_lem, rules)
