-- RULES 5, 10.1: each answer as its number, its place and its calls, and whether it refuses. Assumes nothing.
use Rattle.std.specs.Prelude.{Bool, true, false, ℕ, Ok, Err, if◌then◌else◌}
use Rattle.rules.specs.Numbers.Verdict.{Verdict, Answer, Tested}
use Rattle.rules.specs.Numbers.Refusal.{number_of}
use Rattle.rules.specs.declared.answer.Found.{Found}
use Rattle.rules.specs.declared.event.Event.{Event}
use Rattle.rules.specs.declared.event.Event.TheVariants.{Tick}

-- nothing is refused
unfoldable pub passes : Tested → Bool
passes (Ok _) = true
passes (Err why) = false

-- the refusal's number, and 0 where nothing is refused
unfoldable pub tested_number : Tested → ℕ
tested_number (Ok _) = 0
tested_number (Err why) = number_of why

unfoldable pub answer_number : Answer → ℕ
answer_number (Ok call) = 0
answer_number (Err why) = number_of why

-- the lazy calls of a step: 1 where it called the kernel
unfoldable pub answer_calls : Answer → ℕ
answer_calls (Ok call) = if call then 1 else 0
answer_calls (Err why) = 0

-- the refusal's number and its place; both 0 where nothing is refused
unfoldable pub verdict_number : Verdict → ℕ
verdict_number (Ok _) = 0
verdict_number (Err f) = number_of f.why

unfoldable pub verdict_place : Verdict → ℕ
verdict_place (Ok _) = 0
verdict_place (Err f) = f.place

-- what a reader finds at a place: whether there is an event, which one (a tick where there is none) and the next place
unfoldable pub found_some : Found → Bool
found_some (Found.Got e next) = true
found_some (Found.Refused why place) = false
found_some Found.End = false

unfoldable pub found_event : Found → Event
found_event (Found.Got e next) = e
found_event (Found.Refused why place) = Tick
found_event Found.End = Tick

unfoldable pub found_next : Found → ℕ
found_next (Found.Got e next) = next
found_next (Found.Refused why place) = 0
found_next Found.End = 0

-- the number of a record that is refused, and 0 for an event or the end
unfoldable pub found_number : Found → ℕ
found_number (Found.Got e next) = 0
found_number (Found.Refused why place) = number_of why
found_number Found.End = 0
