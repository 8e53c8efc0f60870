-- A `u16` is written as `two` says. Its two bytes are those of `to_le_bytes`.
use Rattle.std.proofs.Common.{rules}
use Rattle.rules.proofs.Numbers.Stored.{two_written}
use Rattle.book.proofs.number.U16Field.write.Goals as goal

pub returns : goal.returns
returns c = two_written _ _ _ _ (search rules) c.to_le_bytes.ensures
