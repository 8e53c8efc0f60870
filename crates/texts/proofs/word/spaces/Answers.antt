-- `texts::word::spaces` meets its contract. As many as stand before another byte. Assumes nothing.
use lib.Dec.{eqb}
use Rattle.std.proofs.Common.{rules, tests}
use Rattle.std.proofs.lemmas.Iterator.{YieldsList-from_slice}
use Rattle.std.proofs.lemmas.Iterator.Consumers.{count_from_yields_List, YieldsList-at}
use Rattle.std.proofs.lemmas.Iterator.Search.{YieldsList-from_take_while}
use Rattle.texts.specs.Cut.{space}
use Rattle.texts.proofs.Cuts.{spaces_is}
use Rattle.texts.proofs.word.spaces.Goals as goal

pub returns-clause-value : goal.returns-clause-value
returns-clause-value c =
    rw spaces_is (count_from_yields_List c.take_while.result _ c.count.ensures.ran
    (YieldsList-from_take_while _ (λ b. eqb b space) (YieldsList-at c.take_while.ensures.source (YieldsList-from_slice c.args.bytes.now c.iter.ensures.rest))
    c.take_while.ensures.closure c.take_while.ensures.done (λ x b q k. search (rules, tests))))
