-- `texts::kind::kind_named` meets its contract. The names in turn. Assumes nothing.
use Rattle.rules.proofs.Numbers.Choice.{flags}
use Rattle.page.specs.Ascii.{ascii}
use Rattle.std.proofs.Common.{rules}
use Rattle.texts.proofs.Cuts.{same_is}
use Rattle.texts.specs.Kind.{kind_named}
use Rattle.texts.proofs.kind.kind_named.Goals as goal

pub returns-then-eq : goal.returns-then-eq
unfolding ascii kind_named
returns-then-eq c = simp same_is (search (flags, rules))

pub returns-then-eq-2 : goal.returns-then-eq-2
unfolding ascii kind_named
returns-then-eq-2 c = simp same_is (search (flags, rules))

pub returns-then-eq-3 : goal.returns-then-eq-3
unfolding ascii kind_named
returns-then-eq-3 c = simp same_is (search (flags, rules))

pub returns-else-eq-3 : goal.returns-else-eq-3
unfolding ascii kind_named
returns-else-eq-3 c = simp same_is (search (flags, rules))
