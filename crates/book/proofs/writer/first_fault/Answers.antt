-- `writer::first_fault` meets its contract. 2, then the plan's, then 8 and 23.
use Rattle.rules.proofs.Numbers.Checks.{handed_on}
use Rattle.book.proofs.WriteOrder.{count_refused, few_there, plan_refused, plan_passed}
use Rattle.book.proofs.writer.first_fault.Goals as goal

pub returns-in-Some : goal.returns-in-Some
returns-in-Some c = search count_refused

pub returns-in_err-load : goal.returns-in_err-load
returns-in_err-load c = plan_refused _ _ _ _ _ c.first_count.ensures _ c.in_default.is _ _ (handed_on _ _ c.from_residual.ensures.1) c.in_err-load.ensures

pub book_size-requires : goal.book_size-requires
book_size-requires c = search few_there

pub returns : goal.returns
returns c = plan_passed _ _ _ _ _ c.first_count.ensures _ c.in_default.is _ _ _ c.in_ok-load.ensures c.book_size.ensures c.first_last.ensures
