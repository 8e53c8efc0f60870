-- RULES 5: what tests come to, as the code answers it: of an event, of a step, and of the checks of records. Assumes nothing.
use Rattle.std.specs.Prelude.{Bool, ℕ, Result, Err}
use Rattle.rules.specs.declared.refusal.Refusal.{Refusal}
use Rattle.rules.specs.declared.answer.Fault.{Fault}

-- the tests of an event: none refuses it, or one does
abbrev pub Tested : Type 0
Tested = Result (Unit {0}) Refusal

-- the step of an event: it is accepted, with whether the lazy scheduler called the kernel, or it is refused
abbrev pub Answer : Type 0
Answer = Result Bool Refusal

-- the checks of records, or a run of events: none is refused, or the first offender is, at its place
abbrev pub Verdict : Type 0
Verdict = Result (Unit {0}) Fault

-- a refusal at a place, and a verdict that is one
abbrev pub fault_at : Refusal → ℕ → Fault
fault_at why place = record { why = why; place = place }

abbrev pub refused_at : Refusal → ℕ → Verdict
refused_at why place = Err (fault_at why place)
