-- `jobs::read::body` and `jobs::read::item`, which call each other, meet their contracts. The loop over a body goes from item to item; an item is work, or a section. Assumes nothing.
use Rattle.std.proofs.Common.{rules}
use Rattle.jobs.proofs.Ways.{err_same, items, within_gap, body_start, body_next, body_done, body_stopped, body_over, body_halted}
use Rattle.jobs.proofs.read.+body_item.Goals as goal

pub body-loop-next-init : goal.body-loop-next-init
body-loop-next-init t c = (search rules, search rules, search rules, search body_start)

pub body-loop-next-preserved : goal.body-loop-next-preserved
body-loop-next-preserved t c = (search rules, search (within_gap, rules), search rules, search (body_next, rules))

pub body-returns-in_err-next-clause-did : goal.body-returns-in_err-next-clause-did
body-returns-in_err-next-clause-did t c = search (err_same, body_stopped, rules)

pub body-returns-in_err-next-clause-over : goal.body-returns-in_err-next-clause-over
body-returns-in_err-next-clause-over t c = search (err_same, body_halted, rules)

pub body-returns-then-byte-ne-GAP-clause-did : goal.body-returns-then-byte-ne-GAP-clause-did
body-returns-then-byte-ne-GAP-clause-did t c = search (body_done, rules)

pub body-returns-then-byte-ne-GAP-clause-over : goal.body-returns-then-byte-ne-GAP-clause-over
body-returns-then-byte-ne-GAP-clause-over t c = search (body_over, rules)

pub item-returns-in-119-clause-did : goal.item-returns-in-119-clause-did
item-returns-in-119-clause-did t c = search (items, err_same, rules)

pub item-returns-in_err-l-in-91-clause-did : goal.item-returns-in_err-l-in-91-clause-did
item-returns-in_err-l-in-91-clause-did t c = search (items, err_same, rules)

pub item-returns-in_err-inner-in-91-clause-did : goal.item-returns-in_err-inner-in-91-clause-did
item-returns-in_err-inner-in-91-clause-did t c = search (items, err_same, rules)

pub item-returns-in_ok-inner-in-91-clause-did : goal.item-returns-in_ok-inner-in-91-clause-did
item-returns-in_ok-inner-in-91-clause-did t c = search (items, err_same, rules)

pub item-returns-else-byte-eq-GAP-clause-did : goal.item-returns-else-byte-eq-GAP-clause-did
item-returns-else-byte-eq-GAP-clause-did t c = search (items, err_same, rules)

pub item-returns-in_default-clause-did : goal.item-returns-in_default-clause-did
item-returns-in_default-clause-did t c = search (items, err_same, rules)

pub item-returns-then-k-eq0-clause-did : goal.item-returns-then-k-eq0-clause-did
item-returns-then-k-eq0-clause-did t c = search (items, err_same, rules)
