-- RULES 19.2: the kinds of record, and the job, which is several: their names, how many numbers each has and how large these may be, and the record that they make. Assumes nothing.
use Rattle.std.specs.Prelude.{Bool, true, false, List, ℕ, ◌+◌, ◌*◌, eqb, Option, Some, None, if◌then◌else◌}
use Rattle.rules.specs.Books.Event.{event_number}
use Rattle.rules.specs.declared.event.Event.{Event}
use Rattle.page.specs.Ascii.{ascii}
use Rattle.texts.specs.Cut.{same}
use Rattle.texts.specs.declared.kind.Kind.{Kind}
use Rattle.texts.specs.declared.kind.Kind.TheVariants.{Task, Lock, Use, Release, Acquire, Unlock, Work, Finish, Tick, Job}

-- of an event or a job, and of any record
unfoldable pub event_named : List ℕ → Option Kind
event_named word =
    if same word (ascii "release") then Some Release
    else if same word (ascii "acquire") then Some Acquire
    else if same word (ascii "unlock") then Some Unlock
    else if same word (ascii "work") then Some Work
    else if same word (ascii "finish") then Some Finish
    else if same word (ascii "tick") then Some Tick
    else if same word (ascii "job") then Some Job
    else None

unfoldable pub kind_named : List ℕ → Option Kind
kind_named word =
    if same word (ascii "task") then Some Task
    else if same word (ascii "lock") then Some Lock
    else if same word (ascii "use") then Some Use
    else event_named word

-- how many numbers a record has
unfoldable pub fields_of : Kind → ℕ
fields_of Task = 2
fields_of Lock = 2
fields_of Use = 2
fields_of Release = 1
fields_of Acquire = 1
fields_of Unlock = 1
fields_of Work = 1
fields_of Finish = 0
fields_of Tick = 0
fields_of Job = 1

-- the most that its number w may be, w being 0 or 1: one byte holds it, or two for a limit and for units
unfoldable pub most_of : Kind → ℕ → ℕ
most_of Task w = 255
most_of Lock w = if eqb w 0 then 255 else 65_535
most_of Use w = 255
most_of Release w = 255
most_of Acquire w = 255
most_of Unlock w = 255
most_of Work w = 65_535
most_of Finish w = 255
most_of Tick w = 255
most_of Job w = 255

-- RULES 19.3: the part that it belongs to: 0 tasks, 1 locks, 2 uses, 3 events
unfoldable pub part_of : Kind → ℕ
part_of Task = 0
part_of Lock = 1
part_of Use = 2
part_of Release = 3
part_of Acquire = 3
part_of Unlock = 3
part_of Work = 3
part_of Finish = 3
part_of Tick = 3
part_of Job = 3

-- the record as one number, low byte first, from its numbers a and b; of a job the release that it starts with
unfoldable pub record_of : Kind → ℕ → ℕ → ℕ
record_of Task a b = a + b * 256
record_of Lock a b = a + b * 65536
record_of Use a b = a + b * 256
record_of Release a b = event_number (Event.Release a)
record_of Acquire a b = event_number (Event.Acquire a)
record_of Unlock a b = event_number (Event.Unlock a)
record_of Work a b = event_number (Event.Work a)
record_of Finish a b = event_number Event.Finish
record_of Tick a b = event_number Event.Tick
record_of Job a b = event_number (Event.Release a)

-- after its numbers items stand, or may
unfoldable pub has_items : Kind → Bool
has_items Task = false
has_items Lock = false
has_items Use = false
has_items Release = false
has_items Acquire = false
has_items Unlock = false
has_items Work = false
has_items Finish = false
has_items Tick = false
has_items Job = true
