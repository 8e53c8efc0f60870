-- `plan::ceilings::users_base` meets its contract. Each turn takes one task in.
use Rattle.std.proofs.Common.{rules}
use Rattle.rules.specs.Books.Plan.{declares, users_base}
use Rattle.rules.proofs.Numbers.Place.{greatest_start, greatest_next, greatest_ends}
use Rattle.plan.proofs.ceilings.users_base.Goals as goal

pub loop-x-init : goal.loop-x-init
loop-x-init c = search greatest_start

pub loop-x-preserved : goal.loop-x-preserved
unfolding declares
loop-x-preserved c = search (greatest_next, rules)

pub returns : goal.returns
unfolding users_base
returns c = search (greatest_ends, rules)
