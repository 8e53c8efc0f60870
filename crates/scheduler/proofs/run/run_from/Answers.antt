-- `scheduler::run::run_from` meets its contract. What is left from here comes to what all of it comes to. Assumes nothing.
use Rattle.std.proofs.Common.{arith}
use Rattle.rules.proofs.Numbers.Checks.{handed_on}
use Rattle.scheduler.proofs.RunLaws.{made_tree, going_start, going_ready, going_next, going_refused, going_end}
use Rattle.scheduler.proofs.run.run_from.Goals as goal

pub loop-k-init : goal.loop-k-init
loop-k-init c = record {
  going = going_start _ _ _ _ _ _ c.requires;
  tree = made_tree _ _ _ _ _ _ c.requires c.of-tree.ensures.tasks c.of-tree.ensures.keys;
}

pub turn-requires : goal.turn-requires
turn-requires c = (going_ready _ _ _ _ _ _ c.requires _ _ _ c.loop-k.invariant.going (omega arith), c.loop-k.invariant.tree)

pub loop-k-preserved : goal.loop-k-preserved
loop-k-preserved c = record {
  going = going_next _ _ _ _ _ _ c.requires _ _ _ c.loop-k.invariant.going (omega arith) _ _ c.in_ok-turn.ensures.rows_after;
  tree = c.in_ok-turn.ensures.tree_after;
}

pub returns-in_err-turn : goal.returns-in_err-turn
returns-in_err-turn c = rw (handed_on _ _ c.from_residual.ensures.1)
    (going_refused _ _ _ _ _ _ c.requires _ _ _ c.loop-k.invariant.going (omega arith) _ _ _ _ c.in_err-turn.ensures.rows_after)

pub returns : goal.returns
returns c = going_end _ _ _ _ _ _ c.requires _ _ _ c.loop-k.invariant.going (omega arith)
