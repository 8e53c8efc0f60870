-- `kernel::refusals::older` meets its contract. There is no newest take, or it says its lock. Assumes nothing.
use Rattle.rules.specs.Schedulers.Figures.{figures_of}
use Rattle.kernel.proofs.TestLaws.{newest_none, newest_other}
use Rattle.kernel.proofs.refusals.older.Goals as goal

pub returns-then-state-x-eq0 : goal.returns-then-state-x-eq0
returns-then-state-x-eq0 c = newest_none (figures_of c.args.state.now) c.args.state.now.head.running c.args.l c.if-state-x-eq0.true

pub returns-else-state-x-eq0 : goal.returns-else-state-x-eq0
returns-else-state-x-eq0 c = newest_other (figures_of c.args.state.now) c.args.state.now.head.running c.args.l _ c.if-state-x-eq0.false c.newest_of.ensures
