-- `scheduler::turn::event_at` meets its contract. The record is an event, or none. Assumes nothing.
use Rattle.std.proofs.Common.{ap}
use Rattle.rules.specs.Numbers.Answer.{found_event}
use Rattle.scheduler.proofs.turn.event_at.Goals as goal

pub returns-in-Got : goal.returns-in-Got
unfolding found_event
returns-in-Got c = ap found_event c.in-Got.ensures

pub returns-in-Refused : goal.returns-in-Refused
unfolding found_event
returns-in-Refused c = ap found_event c.in-Refused.ensures

pub returns-in-End : goal.returns-in-End
unfolding found_event
returns-in-End c = ap found_event c.in-End.ensures
