-- `kernel::unlock::give_back` meets its contract. The section goes on or is over. Assumes nothing.
use Rattle.kernel.proofs.EventLaws.{section_stays, section_ends, gives_back}
use Rattle.kernel.proofs.unlock.give_back.Goals as goal
use Rattle.kernel.proofs.unlock.give_back.Goals.{then-not-has_lock, else-not-has_lock}

pub returns : goal.returns
returns c = gives_back c.args.l c.args.state.now _ _ c.under_of-row.ensures c.has_lock.ensures _ _ _
    (elim c.if-not-has_lock.branch [
      | then-not-has_lock w ↦ section_ends c.args.l c.args.state.now _ _ c.under_of-row.ensures c.has_lock.ensures w.if-not-has_lock.true _ w.state-is
      | else-not-has_lock w ↦ section_stays c.args.l c.args.state.now _ _ c.under_of-row.ensures c.has_lock.ensures w.if-not-has_lock.false _ w.state-is
    ])
    c.newest_word-state.ensures c.under_of.ensures
