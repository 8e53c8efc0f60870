-- `lay::put_entry` meets its contract. Kind, count and offset, one after the other.
use Rattle.book.proofs.Laying.{entry_stored}
use Rattle.book.proofs.lay.put_entry.Goals as goal

pub returns : goal.returns
returns c = rw (← c.index-e.ensures.0) (entry_stored _ _ _ _ _ _ _ _ c.write.ensures c.write-2.ensures c.write-3.ensures)
