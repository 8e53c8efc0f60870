-- `kernel::switch::keep` meets its contract. A priority is kept and its key put, or there is nobody to keep one for. Assumes nothing.
use Rattle.tournament.proofs.KeyLaws.{put_kept}
use Rattle.tournament.proofs.Election.{top_says, put_says}
use Rattle.kernel.proofs.switch.keep.Goals as goal

pub returns-then-x-lt-MAX_TASKS-clause-tree_after : goal.returns-then-x-lt-MAX_TASKS-clause-tree_after
returns-then-x-lt-MAX_TASKS-clause-tree_after c = search put_kept

pub returns-then-x-lt-MAX_TASKS-clause-root : goal.returns-then-x-lt-MAX_TASKS-clause-root
returns-then-x-lt-MAX_TASKS-clause-root c =
    put_says _ _ _ _ _ _ _ _ c.requires (returns-then-x-lt-MAX_TASKS-clause-tree_after c) c.put.ensures.keys c.put.ensures.root

pub returns-else-x-lt-MAX_TASKS-clause-root : goal.returns-else-x-lt-MAX_TASKS-clause-root
returns-else-x-lt-MAX_TASKS-clause-root c = top_says _ _ _ c.requires _ c.top.ensures
