-- `office::explain::past_lock` meets its contract. Each turn passes one lock. Assumes nothing.
use Rattle.std.proofs.Common.{rules}
use Rattle.rules.proofs.Numbers.Choice.{flags}
use Rattle.rules.proofs.Numbers.Place.{passed_start, passed_next, passed_found, passed_ends}
use Rattle.office.specs.Explain.{past_lock}
use Rattle.office.proofs.explain.past_lock.Goals as goal

pub loop-l-init : goal.loop-l-init
loop-l-init c = search (passed_start, rules)

pub loop-l-preserved : goal.loop-l-preserved
loop-l-preserved c = search (passed_next, flags, rules)

pub returns-then-is_past : goal.returns-then-is_past
unfolding past_lock
returns-then-is_past c = search (passed_found, flags, rules)

pub returns : goal.returns
unfolding past_lock
returns c = search (passed_ends, rules)
