-- `office::compose::narrow` meets its contract. Each turn stores one number. Assumes nothing.
use Rattle.std.proofs.Common.{rules}
use Rattle.rules.proofs.Numbers.Place.{renewed_start, renewed_next, renewed_ends}
use Rattle.office.proofs.Cuts.{narrow_front}
use Rattle.office.proofs.compose.narrow.Goals as goal

pub loop-i-init : goal.loop-i-init
loop-i-init c = search (renewed_start, rules)

pub loop-i-preserved : goal.loop-i-preserved
loop-i-preserved c = search (renewed_next, rules)

pub returns : goal.returns
returns c = search (narrow_front, renewed_ends, rules)
