-- `figures::spare::spare` meets its contract. Each number that is joined leaves 0 only where it is 0 too.
use Rattle.std.proofs.Common.{rules, ◌≡◌, arith, refl, drop}
use Rattle.std.proofs.lemmas.Fn.{fold_over, slice_gives, fronts}
use Rattle.std.proofs.lemmas.Grind.{common_steps}
use Rattle.figures.proofs.Joined.{joined_first, joined_more}
use Rattle.figures.proofs.spare.spare.Goals as goal

pub returns : goal.returns
returns g c =
    let laws = g.met.T.Figure.laws in
    let zero = c.default-zero.result in
    let is = c.default-zero.ensures in
    let told = fold_over fronts (λ y. y.now) _ (λ ys a. g.T.PartialEq.eq a zero ≡ g.T.Figure.zeros ys) _
    (λ ys a x b f' e k. (joined_more laws zero is ys a x.now b e (search rules), refl))
    c.iter.result c.iter.result.rest.now _ c.fold.result (slice_gives _) (joined_first laws zero is) c.fold.ensures.ran in
    let rest : c.iter.result.rest.now ≡ drop c.args.n c.args.xs.now = grind (arith, common_steps) in
    cc
