-- `plan::walk::users_of` meets its contract. Each turn takes one task in, and the greatest gap says whether any is asked for.
use Rattle.std.proofs.Common.{rules}
use Rattle.rules.specs.Books.Plan.{declares, users_base, above_fault}
use Rattle.rules.proofs.Numbers.Place.{greatest_start, greatest_next, greatest_ends, asked_ends}
use Rattle.plan.proofs.Users.{gap_start, gap_next}
use Rattle.plan.proofs.walk.users_of.Goals as goal

pub loop-x-init : goal.loop-x-init
loop-x-init c = record { bases = greatest_start _ _; gaps = gap_start _ _ _ _; byte = search rules }

pub loop-x-preserved : goal.loop-x-preserved
unfolding declares
loop-x-preserved c = record {
  bases = search (greatest_next, rules);
  gaps = search (gap_next, rules);
  byte = c.loop-x.invariant.byte;
}

pub returns : goal.returns
unfolding users_base above_fault
returns c = (search (greatest_ends, rules), search (asked_ends, rules))
