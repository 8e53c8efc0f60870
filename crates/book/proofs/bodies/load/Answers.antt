-- `bodies::load` meets its contract. Each of the three bodies lies within the book.
use Rattle.book.proofs.Parts.{task_body, lock_body, use_body}
use Rattle.book.proofs.bodies.load.Goals as goal

pub read-requires-clause-body_in_bounds : goal.read-requires-clause-body_in_bounds
read-requires-clause-body_in_bounds c = task_body _ c.requires

pub read-requires-2-clause-body_in_bounds : goal.read-requires-2-clause-body_in_bounds
read-requires-2-clause-body_in_bounds c = lock_body _ c.requires

pub read-requires-3-clause-body_in_bounds : goal.read-requires-3-clause-body_in_bounds
read-requires-3-clause-body_in_bounds c = use_body _ c.requires
