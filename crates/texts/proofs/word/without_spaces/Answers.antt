-- `texts::word::without_spaces` meets its contract. The length, less the spaces at the end. Assumes nothing.
use mathlib.Core.Path.{◌≡◌, ap}
use Prim.Native.Nat.{◌-◌}
use lib.Dec.{eqb}
use lib.ListN.{length}
use Rattle.std.proofs.Common.{rules, tests}
use Rattle.std.proofs.lemmas.Iterator.Consumers.{count_from_yields_List, YieldsList-at}
use Rattle.std.proofs.lemmas.Iterator.Adapters.{YieldsList-from_rev_slice}
use Rattle.std.proofs.lemmas.Iterator.Search.{YieldsList-from_take_while}
use Rattle.std.specs.Prelude.{reverse}
use Rattle.std.specs.List.{take_while}
use Rattle.texts.specs.Cut.{space}
use Rattle.texts.proofs.Cuts.{bare_is}
use Rattle.texts.proofs.word.without_spaces.Goals as goal

pub returns-clause-value : goal.returns-clause-value
returns-clause-value c =
    let e : c.count.result ≡ length (take_while (λ b. eqb b space) (reverse c.args.bytes.now)) =
    count_from_yields_List c.take_while.result _ c.count.ensures.ran
    (YieldsList-from_take_while _ (λ b. eqb b space) (YieldsList-at c.take_while.ensures.source (YieldsList-from_rev_slice c.args.bytes.now cc))
    c.take_while.ensures.closure c.take_while.ensures.done (λ x b q k. search (rules, tests))) in
    rw bare_is (ap (λ n. length c.args.bytes.now - n) e)
