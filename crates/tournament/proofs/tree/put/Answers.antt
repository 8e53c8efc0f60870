-- `tournament::tree::put` meets its contract. Each turn puts one place right. Assumes nothing.
use Rattle.tournament.proofs.TreeLaws.{put_past, put_past_root, climb_next, climb_ends, climb_root}
use Rattle.tournament.proofs.tree.put.Goals as goal

pub returns-then-n-t-clause-keys_after : goal.returns-then-n-t-clause-keys_after
returns-then-n-t-clause-keys_after c f few e = search put_past

pub returns-then-n-t-clause-root : goal.returns-then-n-t-clause-root
returns-then-n-t-clause-root c f few e = search put_past_root

pub loop-i-preserved : goal.loop-i-preserved
loop-i-preserved c = search climb_next

pub returns-clause-keys_after : goal.returns-clause-keys_after
returns-clause-keys_after c f few e = search climb_ends

pub returns-clause-root : goal.returns-clause-root
returns-clause-root c f few e = search climb_root
