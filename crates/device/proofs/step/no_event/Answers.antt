-- `device::step::no_event` meets its contract. Work asks its id alone; every other kind is as 8 has it.
use Rattle.device.proofs.Spelled.{work_handed, other_handed}
use Rattle.device.proofs.step.no_event.Goals as goal

pub returns-then-kind-eq4 : goal.returns-then-kind-eq4
returns-then-kind-eq4 c = search work_handed

pub returns-else-kind-eq4 : goal.returns-else-kind-eq4
returns-else-kind-eq4 c = search other_handed
