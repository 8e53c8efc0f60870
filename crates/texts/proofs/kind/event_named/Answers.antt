-- `texts::kind::event_named` meets its contract. The names in turn. Assumes nothing.
use Rattle.rules.proofs.Numbers.Choice.{flags}
use Rattle.page.specs.Ascii.{ascii}
use Rattle.std.proofs.Common.{rules}
use Rattle.texts.proofs.Cuts.{same_is}
use Rattle.texts.specs.Kind.{event_named}
use Rattle.texts.proofs.kind.event_named.Goals as goal

pub returns-then-eq : goal.returns-then-eq
unfolding ascii event_named
returns-then-eq c = simp same_is (search (flags, rules))

pub returns-then-eq-2 : goal.returns-then-eq-2
unfolding ascii event_named
returns-then-eq-2 c = simp same_is (search (flags, rules))

pub returns-then-eq-3 : goal.returns-then-eq-3
unfolding ascii event_named
returns-then-eq-3 c = simp same_is (search (flags, rules))

pub returns-then-eq-4 : goal.returns-then-eq-4
unfolding ascii event_named
returns-then-eq-4 c = simp same_is (search (flags, rules))

pub returns-then-eq-5 : goal.returns-then-eq-5
unfolding ascii event_named
returns-then-eq-5 c = simp same_is (search (flags, rules))

pub returns-then-eq-6 : goal.returns-then-eq-6
unfolding ascii event_named
returns-then-eq-6 c = simp same_is (search (flags, rules))

pub returns-then-eq-7 : goal.returns-then-eq-7
unfolding ascii event_named
returns-then-eq-7 c = simp same_is (search (flags, rules))

pub returns-else-eq-7 : goal.returns-else-eq-7
unfolding ascii event_named
returns-else-eq-7 c = simp same_is (search (flags, rules))
