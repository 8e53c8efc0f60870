-- RULES 16: what the library answers a host in another language: a verdict by its number and place, an answer by its number and calls, and beside them
-- what the function gives. Assumes nothing.
use Rattle.std.specs.Prelude.{Bool, not, ℕ, ◌*◌, eqb, if◌then◌else◌}
use Rattle.rules.specs.Numbers.Verdict.{Verdict}
use Rattle.rules.specs.Numbers.Capacity.{max_events}
use Rattle.rules.specs.Numbers.Refusal.{number_of}
use Rattle.rules.specs.Numbers.Answer.{verdict_number, verdict_place, answer_number, answer_calls}
use Rattle.rules.specs.Books.Event.{event_fault, event_of}
use Rattle.rules.specs.Books.Write.{Wrote}
use Rattle.rules.specs.Schedulers.Protocol.{protocol_named}
use Rattle.rules.specs.Replays.Step.{step_of}
use Rattle.rules.specs.declared.plan.Plan.{Plan}
use Rattle.rules.specs.declared.state.State.{State}
use Rattle.rules.specs.Books.Book.{Checked}
use Rattle.rules.specs.Books.Load.{Loaded}
use Rattle.rules.specs.declared.answer.Stepped.{Stepped}
use Rattle.rules.specs.declared.refusal.Refusal.TheVariants.{WrongEvent}
use Rattle.jobs.specs.Job.{Job}
use Rattle.device.specs.declared.check.DeviceCheck.{DeviceCheck}
use Rattle.device.specs.declared.job.DeviceJob.{DeviceJob}
use Rattle.device.specs.declared.load.DeviceLoad.{DeviceLoad}
use Rattle.device.specs.declared.replay.DeviceReplay.{DeviceReplay}
use Rattle.device.specs.declared.step.DeviceStep.{DeviceStep}
use Rattle.device.specs.declared.write.DeviceWrite.{DeviceWrite}

-- the row space of a book of the greatest length
abbrev pub full_room : ℕ
full_room = max_events * 4

abbrev pub check_spelled : Checked → DeviceCheck
check_spelled c = record { number = verdict_number c.verdict; place = verdict_place c.verdict; plan = c.plan; events = c.events }

abbrev pub load_spelled : Loaded → DeviceLoad
load_spelled l = record { number = verdict_number l.verdict; place = verdict_place l.verdict; plan = l.plan }

abbrev pub write_spelled : Wrote → DeviceWrite
write_spelled w = record { number = verdict_number w.verdict; place = verdict_place w.verdict; length = w.length }

abbrev pub job_spelled : Job → DeviceJob
job_spelled j = record { number = verdict_number j.verdict; place = verdict_place j.verdict; events = j.events }

abbrev pub replay_spelled : Verdict → Plan → State → DeviceReplay
replay_spelled v p s = record { number = verdict_number v; place = verdict_place v; plan = p; state = s }

abbrev pub step_spelled : Stepped → DeviceStep
step_spelled s = record { number = answer_number s.answer; calls = answer_calls s.answer; state = s.state }

-- three numbers that are no event's: what 8 refuses in a book, but for work of 0, which is an event that a step refuses by 20
abbrev pub no_event : ℕ → ℕ → ℕ → Bool
no_event kind id amount = if eqb kind 4 then not (eqb id 0) else event_fault kind id amount

abbrev pub not_stepped : State → DeviceStep
not_stepped s = record { number = number_of WrongEvent; calls = 0; state = s }

-- 8 leaves the state as it is; an event is stepped, by the protocol of this number
abbrev pub step_from : ℕ → Plan → State → ℕ → ℕ → ℕ → DeviceStep
step_from protocol p s kind id amount =
    if no_event kind id amount then not_stepped s else step_spelled (step_of (protocol_named protocol) p s (event_of kind id amount))
