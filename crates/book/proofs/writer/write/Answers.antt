-- `writer::write` meets its contract. The book is laid, or refused.
use Rattle.rules.proofs.Numbers.Checks.{handed_on}
use Rattle.book.proofs.WriteOrder.{write_refused, room_for, write_passed}
use Rattle.book.proofs.writer.write.Goals as goal

pub returns-in_err-first_fault : goal.returns-in_err-first_fault
returns-in_err-first_fault c = write_refused _ _ _ _ _ _ _ (handed_on _ _ c.from_residual.ensures.1) c.in_err-first_fault.ensures

pub lay-requires : goal.lay-requires
lay-requires c = room_for _ _ _ _ _ c.in_ok-first_fault.ensures

pub returns : goal.returns
returns c = let h = c.in_ok-first_fault.ensures in search write_passed
