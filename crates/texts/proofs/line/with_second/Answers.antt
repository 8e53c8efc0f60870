-- `texts::line::with_second` meets its contract. The number, or what is wrong. Assumes nothing.
use Rattle.std.proofs.Common.{rules}
use Rattle.texts.proofs.Said.{field_within, second_value, second_wrong}
use Rattle.texts.proofs.line.with_second.Goals as goal

pub ended-requires : goal.ended-requires
ended-requires c = search (field_within, rules)

pub returns-in-Ok-default : goal.returns-in-Ok-default
returns-in-Ok-default c = search (second_value, rules)

pub returns-in-Err-default : goal.returns-in-Err-default
returns-in-Err-default c = search (second_wrong, rules)
