use Rattle.book.proofs.Laying.{RecordsSoFar}
use Rattle.book.proofs.lay.put_body.Given as goal

abbrev pub invariant-loop-record : goal.invariant-loop-record
invariant-loop-record g l =
    RecordsSoFar g.F.Field.SIZE g.F.Field.bytes_of g.F.Field.body_of g.met.F.Field.size g.met.F.Field.none g.met.F.Field.more l.initial.out l.from l.records
    l.record-index l.place l.out
