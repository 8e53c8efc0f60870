-- `kernel::switch::run` meets its contract. Who is elected runs by what was kept for it. Assumes nothing.
use Rattle.std.proofs.Common.{◌≤◌, refl}
use Rattle.rules.specs.Numbers.Capacity.{max_tasks}
use Rattle.tournament.proofs.Election.{tasks_few}
use Rattle.kernel.proofs.SwitchLaws.{switch_runs}
use Rattle.kernel.proofs.switch.run.Goals as goal

pub returns-clause-state_after : goal.returns-clause-state_after
returns-clause-state_after c =
    let few : c.args.tree.now.tasks ≤ max_tasks = tasks_few _ _ _ c.requires.0 in
    switch_runs _ _ _ c.requires.0 _ _ _ _ _ _ _ _ (c.elect-q.ensures _ few c.requires.1) c.shown-state.ensures (c.best_by.ensures _ few c.requires.1)
    c.keep-rest.ensures.state_after (c.best_by-2.ensures _ few c.keep-rest.ensures.root) refl c.second_word-state.ensures
