-- `contents::wrong_entry` meets its contract. A wrong kind, or else the offset decides.
use Rattle.std.proofs.Common.{refl}
use Rattle.book.proofs.LaidOut.{wrong_kind, right_kind}
use Rattle.book.proofs.Places.{index_small}
use Rattle.book.proofs.contents.wrong_entry.Goals as goal

pub returns-then-kind_at-index : goal.returns-then-kind_at-index
returns-then-kind_at-index c = wrong_kind _ _ _ refl _ _ (index_small _) c.kind_at.ensures c.index.ensures.0 c.if-kind_at-index.true

pub returns-else-kind_at-index : goal.returns-else-kind_at-index
returns-else-kind_at-index c =
    right_kind _ _ _ c.body_at.ensures _ _ _ (index_small _) c.kind_at.ensures c.index.ensures.0 c.if-kind_at-index.false c.offset_at.ensures
