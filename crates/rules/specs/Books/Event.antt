-- RULES 4.7: the six events, the kind, id and amount of each in a book, refusal 8, and the event of a record. Assumes nothing.
use Rattle.std.specs.Prelude.{Bool, true, not, ℕ, ◌+◌, ◌*◌, ◌/◌, ◌%◌, eqb, leb, if◌then◌else◌}
use Rattle.rules.specs.declared.event.Event.{Event}
use Rattle.rules.specs.declared.event.Event.TheVariants.{Release, Acquire, Unlock, Work, Finish, Tick}

-- the kind, 1 to 6
unfoldable pub kind_of : Event → ℕ
kind_of (Release t) = 1
kind_of (Acquire l) = 2
kind_of (Unlock l) = 3
kind_of (Work a) = 4
kind_of Finish = 5
kind_of Tick = 6

-- the task or the lock, and the units; 0 where the kind has none
unfoldable pub id_of : Event → ℕ
id_of (Release t) = t
id_of (Acquire l) = l
id_of (Unlock l) = l
id_of (Work a) = 0
id_of Finish = 0
id_of Tick = 0

unfoldable pub amount_of : Event → ℕ
amount_of (Release t) = 0
amount_of (Acquire l) = 0
amount_of (Unlock l) = 0
amount_of (Work a) = a
amount_of Finish = 0
amount_of Tick = 0

-- 8: no event's kind, something in a field without use, or work of no units
unfoldable pub event_fault : ℕ → ℕ → ℕ → Bool
event_fault kind id amount =
    if eqb kind 0 then true
    else if leb kind 3 then not (eqb amount 0)
    else if eqb kind 4 then (if eqb id 0 then eqb amount 0 else true)
    else if leb kind 6 then (if eqb id 0 then not (eqb amount 0) else true)
    else true

-- the event of a record that is not refused
unfoldable pub event_of : ℕ → ℕ → ℕ → Event
event_of kind id amount =
    if eqb kind 1 then Release id
    else if eqb kind 2 then Acquire id
    else if eqb kind 3 then Unlock id
    else if eqb kind 4 then Work amount
    else if eqb kind 5 then Finish
    else Tick

-- ---- a record as one number, low byte first

abbrev pub record_kind : ℕ → ℕ
record_kind w = w % 256

abbrev pub record_id : ℕ → ℕ
record_id w = w / 256 % 256

abbrev pub record_amount : ℕ → ℕ
record_amount w = w / 65536

-- whether 8 refuses it, and its event
unfoldable pub number_fault : ℕ → Bool
number_fault w = event_fault (record_kind w) (record_id w) (record_amount w)

unfoldable pub number_event : ℕ → Event
number_event w = event_of (record_kind w) (record_id w) (record_amount w)

-- the number of an event's record
abbrev pub event_number : Event → ℕ
event_number e = kind_of e + id_of e * 256 + amount_of e * 65536
