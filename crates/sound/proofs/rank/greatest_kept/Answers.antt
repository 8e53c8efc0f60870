-- `rank::greatest_kept` meets its contract: the fold takes one task in at a time.
use Rattle.std.proofs.Common.{rules, ◌∙◌, ◌≡◌, max, take, arith}
use Rattle.std.specs.List.{fold}
use Rattle.std.proofs.iter.runs.Made.{chains}
use Rattle.sound.proofs.Places.{greatest_folds}
use Rattle.sound.proofs.rank.greatest_kept.Goals as goal

pub returns : goal.returns
returns c =
    let folded : c.fold.result ≡ fold (λ a x. max a x) 0 (take c.args.n c.args.kept.now) = search (rules, chains) in
    c.kernel_of.ensures ∙ folded ∙ greatest_folds c.args.kept.now c.args.n (omega arith)
