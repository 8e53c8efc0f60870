-- `task::number_new` meets its contract: the fold asks one task at a time.
use Rattle.std.proofs.Common.{rules, arith, ◌∙◌, ◌≡◌, ◌&&◌, not, eqb, true, take}
use Rattle.std.specs.List.{fold}
use Rattle.std.proofs.lemmas.Iterator.{YieldsList-from_slice}
use Rattle.std.proofs.lemmas.Iterator.Consumers.{fold_from_yields_List}
use borrow.Author.Tests.{tests}
use Rattle.rules.specs.Soundness.SoundTest.{number_new}
use Rattle.sound.proofs.Places.{every_folds}
use Rattle.sound.proofs.task.number_new.Goals as goal

pub returns : goal.returns
unfolding number_new
returns c =
    let folded : c.fold.result ≡ fold (λ t z. t && not (eqb z c.args.y)) true (take c.args.x c.args.released.now) =
    fold_from_yields_List _ (λ t z. t && not (eqb z c.args.y)) true c.fold.result c.fold.ensures.ran
    (YieldsList-from_slice (take c.args.x c.args.released.now) (search rules)) (λ a x b q k. search (rules, tests)) in
    folded ∙ every_folds c.args.released.now (λ z. not (eqb z c.args.y)) c.args.x (omega arith)
