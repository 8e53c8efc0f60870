-- A `u32` is written as `four` says. Its four bytes are those of `to_le_bytes`.
use Rattle.std.proofs.Common.{rules}
use Rattle.rules.proofs.Numbers.Stored.{four_written}
use Rattle.book.proofs.number.U32Field.write.Goals as goal

pub returns : goal.returns
returns c = four_written _ _ _ _ (search rules) c.to_le_bytes.ensures
