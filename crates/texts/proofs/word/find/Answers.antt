-- `texts::word::find` meets its contract. The place of the first, or the length. Assumes nothing.
use mathlib.Core.Path.{◌≡◌, ◌∙◌, ap}
use lib.Dec.{eqb}
use lib.ListN.{length}
use Rattle.std.proofs.Common.{rules, tests}
use Rattle.std.proofs.lemmas.Iterator.{YieldsList-from_slice}
use Rattle.std.proofs.lemmas.Iterator.Search.{position_from_yields_List}
use Rattle.std.specs.Option.{unwrap_or}
use Rattle.std.specs.List.{position}
use Rattle.texts.proofs.Cuts.{up_to_is}
use Rattle.texts.proofs.word.find.Goals as goal

pub returns-clause-value : goal.returns-clause-value
returns-clause-value c =
    let e : c.position.result ≡ position (λ b. eqb b c.args.x) c.args.bytes.now =
    position_from_yields_List (λ b. eqb b c.args.x) _ _ c.position.result c.position.ensures.ran (YieldsList-from_slice c.args.bytes.now c.iter.ensures.rest) (λ x b q k. search (rules, tests)) in
    rw up_to_is (c.unwrap_or.ensures ∙ ap (λ o. unwrap_or o (length c.args.bytes.now)) e)
