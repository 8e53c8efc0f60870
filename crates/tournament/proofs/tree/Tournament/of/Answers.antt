-- `tournament::tree::Tournament::of` meets its contract. The keys are laid and the places before them made, or there are none. Assumes nothing.
use Rattle.std.proofs.Common.{◌∙◌, refl, ap, arith}
use Rattle.tournament.specs.Keys.{tournament_of}
use Rattle.tournament.proofs.BuildLaws.{build_none}
use Rattle.tournament.proofs.tree.Tournament.of.Goals as goal
use Rattle.tournament.proofs.tree.Tournament.of.Goals.{then-tasks-gt0, else-tasks-gt0}

pub returns-clause-keys : goal.returns-clause-keys
returns-clause-keys c =
    elim c.if-tasks-gt0.branch [
      | then-tasks-gt0 w ↦ w.keys-is ∙ w.raise.ensures _ (w.lay.ensures refl)
          ∙ ap (λ n. tournament_of n c.args.released.now c.args.kept.now) c.min-tasks.ensures
      | else-tasks-gt0 w ↦ w.keys-is ∙ build_none c.min-tasks.result _ (omega arith) _ refl
          ∙ ap (λ n. tournament_of n c.args.released.now c.args.kept.now) c.min-tasks.ensures
    ]
