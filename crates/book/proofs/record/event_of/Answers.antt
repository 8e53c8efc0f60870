-- `record::event_of` meets its contract. One arm for each kind.
use Rattle.std.proofs.Common.{refl}
use Rattle.rules.specs.Books.Event.{event_of}
use Rattle.rules.proofs.Numbers.Choice.{tests}
use Rattle.book.proofs.record.event_of.Goals as goal

pub returns-in-1 : goal.returns-in-1
unfolding event_of
returns-in-1 c = rw c.in-1.is refl

pub returns-in-2 : goal.returns-in-2
unfolding event_of
returns-in-2 c = rw c.in-2.is refl

pub returns-in-3 : goal.returns-in-3
unfolding event_of
returns-in-3 c = rw c.in-3.is refl

pub returns-in-4 : goal.returns-in-4
unfolding event_of
returns-in-4 c = rw c.in-4.is refl

pub returns-in-5 : goal.returns-in-5
unfolding event_of
returns-in-5 c = rw c.in-5.is refl

pub returns-in_default : goal.returns-in_default
unfolding event_of
returns-in_default c = search tests
