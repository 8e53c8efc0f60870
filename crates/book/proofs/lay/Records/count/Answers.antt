-- `Records::count` meets its contract. One arm for each part.
use Rattle.std.proofs.Common.{refl}
use Rattle.book.proofs.lay.Records.count.Goals as goal

pub returns-in-Tasks : goal.returns-in-Tasks
returns-in-Tasks c = rw c.in-Tasks.is refl

pub returns-in-Locks : goal.returns-in-Locks
returns-in-Locks c = rw c.in-Locks.is refl

pub returns-in-Uses : goal.returns-in-Uses
returns-in-Uses c = rw c.in-Uses.is refl

pub returns-in-Events : goal.returns-in-Events
returns-in-Events c = rw c.in-Events.is refl
