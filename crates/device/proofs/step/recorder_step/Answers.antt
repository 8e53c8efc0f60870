-- `device::step::recorder_step` meets its contract. The numbers are no event's, or the event is stepped.
use Rattle.device.proofs.Spelled.{not_stepped_lem, step_said}
use Rattle.device.proofs.step.recorder_step.Goals as goal

pub returns-then-no_event : goal.returns-then-no_event
returns-then-no_event c = search not_stepped_lem

pub returns : goal.returns
returns c = search step_said
