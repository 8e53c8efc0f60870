-- `kernel::work::waits` meets its contract. The tasks wait, or nobody does. Assumes nothing.
use Rattle.std.proofs.Common.{◌≤◌, ◌∙◌, ap, rules, arith}
use Rattle.rules.specs.Schedulers.Lazy.{best_kept}
use Rattle.tournament.proofs.Election.{tasks_few}
use Rattle.kernel.proofs.WorkLaws.{waits_nobody}
use Rattle.kernel.proofs.work.waits.Goals as goal

pub bounds-plan-state : goal.bounds-plan-state
bounds-plan-state c = c.requires.0.runs

pub delays-requires : goal.delays-requires
delays-requires c = (tasks_few _ _ _ c.requires.1, c.requires.0.runs)

pub returns-else-lt : goal.returns-else-lt
returns-else-lt c =
    let l : c.best.result.0 ≤ c.kernel_of.result.0 = search rules in
    waits_nobody _ _ _ c.requires.0 (omega (arith, c.best.ensures ∙ ap (best_kept c.args.state.now.kept) c.requires.1.tasks, c.kernel_of.ensures))
