-- `texts::number::value` meets its contract. Assumes nothing.
use Rattle.std.proofs.Common.{rules}
use Rattle.std.proofs.iter.runs.Made.{chains}
use Rattle.texts.proofs.Values.{value_is}
use Rattle.texts.proofs.number.value.Goals as goal

pub returns : goal.returns
returns c = rw value_is (search (rules, chains))
