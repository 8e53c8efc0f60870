-- `lay::put_body` meets its contract. Each turn lays one record.
use Rattle.std.proofs.Common.{rules}
use Rattle.book.proofs.Laying.{records_next, records_end}
use Rattle.book.proofs.lay.put_body.Goals as goal

pub loop-record-preserved : goal.loop-record-preserved
loop-record-preserved g c =
    rw c.SIZE-place.ensures (records_next _ _ _ g.met.F.Field.size g.met.F.Field.none g.met.F.Field.more _ _ _ _ _ _ c.loop-record.invariant _ (search rules) c.record-item.is _
    c.write.ensures)

pub returns-clause-out_after : goal.returns-clause-out_after
returns-clause-out_after g c =
    (records_end _ _ _ g.met.F.Field.size g.met.F.Field.none g.met.F.Field.more _ _ _ _ _ _ c.loop-record.invariant (search rules)).1
