-- `office::explain::explain` meets its contract. The rows of the replay begin as zeros. Assumes nothing.
use Rattle.std.proofs.Common.{rules}
use Rattle.office.proofs.Explaining.{explained_so}
use Rattle.office.proofs.explain.explain.Goals as goal

pub returns : goal.returns
returns c = search (explained_so, rules)
