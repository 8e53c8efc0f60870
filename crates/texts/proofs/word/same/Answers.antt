-- `texts::word::same` meets its contract. Assumes nothing.
use Rattle.std.proofs.Common.{rules}
use Rattle.texts.proofs.Cuts.{same_is}
use Rattle.texts.proofs.word.same.Goals as goal

pub returns : goal.returns
returns c = rw same_is (search rules)
