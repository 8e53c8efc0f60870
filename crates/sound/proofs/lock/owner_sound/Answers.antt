-- `lock::owner_sound` meets its contract: each task has its open locks in its own name.
use Rattle.std.proofs.Common.{◌∙◌, arith}
use Rattle.rules.proofs.Numbers.Choice.{tests}
use Rattle.sound.proofs.Whole.{named_nobody, named_unknown, named_asked}
use Rattle.sound.proofs.lock.owner_sound.Goals as goal

pub returns-then-o-eq0 : goal.returns-then-o-eq0
returns-then-o-eq0 c = grind (arith, tests, named_nobody c.requires.tasks c.args.l c.if-o-eq0.true)

pub returns-then-o-p : goal.returns-then-o-p
returns-then-o-p c = c.has_lock.ensures ∙ named_asked c.requires.tasks c.args.l c.if-o-eq0.false c.if-o-p.true

pub returns-else-o-p : goal.returns-else-o-p
returns-else-o-p c = grind (arith, tests, named_unknown c.requires.tasks c.args.l)
