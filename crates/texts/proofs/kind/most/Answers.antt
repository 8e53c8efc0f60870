-- `texts::kind::most` meets its contract. A lock has two. Assumes nothing.
use Rattle.rules.proofs.Numbers.Choice.{tests}
use Rattle.texts.proofs.Named.{most_lock}
use Rattle.texts.proofs.kind.most.Goals as goal

pub returns-then-w-eq0-clause-value : goal.returns-then-w-eq0-clause-value
returns-then-w-eq0-clause-value c = rw (most_lock c.args.kind c.args.w c.in-Lock.is) (search tests)

pub returns-else-w-eq0-clause-value : goal.returns-else-w-eq0-clause-value
returns-else-w-eq0-clause-value c = rw (most_lock c.args.kind c.args.w c.in-Lock.is) (search tests)
