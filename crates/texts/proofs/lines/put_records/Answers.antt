-- `texts::lines::put_records` meets its contract. Each turn puts one number. Assumes nothing.
use Rattle.std.proofs.Common.{rules}
use Rattle.texts.proofs.Split.{records_start, records_next, records_end}
use Rattle.texts.proofs.lines.put_records.Goals as goal

pub loop-i-init : goal.loop-i-init
loop-i-init c = search (records_start, rules)

pub loop-i-preserved : goal.loop-i-preserved
loop-i-preserved c = search (records_next, rules)

pub returns : goal.returns
returns c = search (records_end, rules)
