-- `head::runs_sound` meets its contract: with nobody each task is asked.
use Rattle.std.proofs.Common.{rules, arith, ◌≡◌, eqb, take, ◌∙◌}
use Rattle.std.specs.List.{list_all}
use Rattle.std.proofs.lemmas.Iterator.{YieldsList-from_slice}
use Rattle.std.proofs.lemmas.Iterator.Search.{all_from_yields_List}
use borrow.Author.Tests.{tests}
use Rattle.rules.specs.Numbers.Place.{at, every}
use Rattle.rules.specs.Soundness.SoundTest.{runs_test}
use Rattle.sound.proofs.Places.{every_lists}
use Rattle.sound.proofs.Tests.{turns}
use Rattle.sound.proofs.head.runs_sound.Goals as goal

pub returns-then-s : goal.returns-then-s
unfolding runs_test
returns-then-s c =
    let listed : c.all.result ≡ list_all (λ y. eqb y 0) (take c.args.p.now.tasks c.args.s.now.released) =
    all_from_yields_List (λ y. eqb y 0) _ _ c.all.result c.all.ensures.ran
    (YieldsList-from_slice (take c.args.p.now.tasks c.args.s.now.released) (search rules)) (λ x b q k. search (rules, tests)) in
    let asked : c.all.result ≡ every (λ x. eqb (at c.args.s.now.released x) 0) c.args.p.now.tasks =
    listed ∙ every_lists c.args.s.now.released (λ y. eqb y 0) c.args.p.now.tasks (omega arith) in
    grind (arith, turns, asked)
