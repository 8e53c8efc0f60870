-- RULES 4 and 5.2 to 5.8: the bytes of a book, its contents and its bodies, and refusals 1 to 7, 24, 8 and 9 in order. Assumes nothing.
use Rattle.std.specs.Prelude.{Bool, not, ◌||◌, List, [], ◌∷◌, ◌++◌, ℕ, zero, suc, ◌+◌, ◌*◌, ◌/◌, eqb, ltb, length, drop, Result, Ok, Err, if◌then◌else◌}
use Rattle.rules.specs.Numbers.Verdict.{Verdict, refused_at}
use Rattle.rules.specs.Numbers.Capacity.{max_tasks, max_locks, max_uses, max_events}
use Rattle.rules.specs.Numbers.Place.{at, tabulate}
use Rattle.rules.specs.Numbers.Refusal.{Check, first_fault}
use Rattle.rules.specs.Books.Event.{event_fault, event_of}
use Rattle.rules.specs.Books.Plan.{count_fault}
use Rattle.rules.specs.Books.Load.{load_checks, plan_of, blank_plan}
use Rattle.rules.specs.declared.plan.Plan.{Plan}
use Rattle.rules.specs.declared.event.Event.{Event}
use Rattle.rules.specs.declared.answer.Found.{Found}
use Rattle.rules.specs.declared.answer.Fault.{Fault}
use Rattle.rules.specs.declared.answer.Opened.{Opened}
use Rattle.rules.specs.declared.refusal.Refusal.{Refusal}
use Rattle.rules.specs.declared.refusal.Refusal.TheVariants.{ShortBook, WrongCount, WrongLayout, WrongEvent, ShortRows}

-- the little-endian numbers of two and of four bytes at place i
abbrev pub word : List ℕ → ℕ → ℕ
word b i = at b i + at b (i + 1) * 256

abbrev pub long : List ℕ → ℕ → ℕ
long b i = word b i + word b (i + 2) * 65536

-- RULES 4.2: the kind of an entry, its count of records, and its offset. Here the entries count from 0: tasks, locks, uses, events
abbrev pub contents : ℕ
contents = 32

abbrev pub kind_at : List ℕ → ℕ → ℕ
kind_at b e = word b (e * 8)

abbrev pub count_at : List ℕ → ℕ → ℕ
count_at b e = word b (e * 8 + 2)

abbrev pub offset_at : List ℕ → ℕ → ℕ
offset_at b e = long b (e * 8 + 4)

-- a task takes 2 bytes, a lock 4, a use 2, an event 4
unfoldable pub size_of : ℕ → ℕ
size_of e = if eqb e 0 then 2 else if eqb e 1 then 4 else if eqb e 2 then 2 else 4

-- RULES 4.3: where the body of entry e starts, by the counts of the entries before it; of entry 4 it is where the last body ends
unfoldable pub body_at : List ℕ → ℕ → ℕ
body_at b zero = contents
body_at b (suc e) = body_at b e + count_at b e * size_of e

-- RULES 2.1: the bytes of a book that has as many records as there may be
abbrev pub largest_book : ℕ
largest_book = contents + max_tasks * 2 + max_locks * 4 + max_uses * 2 + max_events * 4

-- 3: an entry has another kind or another offset than it should; for 4, the last body ends elsewhere than the book
unfoldable pub layout_fault : List ℕ → ℕ → Bool
layout_fault b e =
    if ltb e 4 then not (eqb (kind_at b e) (e + 1)) || not (eqb (offset_at b e) (body_at b e))
    else not (eqb (body_at b 4) (length b))

-- the records of an entry, one number for a record of two or of four bytes
abbrev pub words_at : List ℕ → ℕ → List ℕ
words_at b e = tabulate (count_at b e) (λ i. word b (body_at b e + i * 2))

abbrev pub longs_at : List ℕ → ℕ → List ℕ
longs_at b e = tabulate (count_at b e) (λ i. long b (body_at b e + i * 4))

abbrev pub tasks_of : List ℕ → List ℕ
tasks_of b = words_at b 0

abbrev pub locks_of : List ℕ → List ℕ
locks_of b = longs_at b 1

abbrev pub uses_of : List ℕ → List ℕ
uses_of b = words_at b 2

-- the records of the events as numbers, and the event body where it lies
abbrev pub event_numbers_of : List ℕ → List ℕ
event_numbers_of b = longs_at b 3

abbrev pub event_body : List ℕ → List ℕ
event_body b = drop (body_at b 3) b

-- RULES 4.7: whether 8 refuses record k of an event body, and the event that stands there
abbrev pub record_fault : List ℕ → ℕ → Bool
record_fault body k = event_fault (at body (k * 4)) (at body (k * 4 + 1)) (word body (k * 4 + 2))

abbrev pub record_event : List ℕ → ℕ → Event
record_event body k = event_of (at body (k * 4)) (at body (k * 4 + 1)) (word body (k * 4 + 2))

abbrev pub events_of : List ℕ → List Event
events_of b = tabulate (count_at b 3) (record_event (event_body b))

-- RULES 4.8: what a reader finds at record k of an event body
unfoldable pub found_at : List ℕ → ℕ → Found
found_at body k =
    if ltb k (length body / 4) then (if record_fault body k then Found.Refused WrongEvent k else Found.Got (record_event body k) (k + 1))
    else Found.End

abbrev pub plan_in : List ℕ → Plan
plan_in b = plan_of (tasks_of b) (locks_of b) (uses_of b)

-- 2, of all four entries by their counts, and 8, of n events
abbrev pub count_check : (ℕ → ℕ) → Check
count_check counts = record { refusal = WrongCount; first = 1; count = 4; fault = λ e. count_fault e (counts e) }

abbrev pub event_check : ℕ → (ℕ → Bool) → Check
event_check n fault = record { refusal = WrongEvent; first = 0; count = n; fault = fault }

-- 1 (place 0), 2 (the entry, 1 to 4), 3 (the entry, or 5 for the end)
unfoldable pub contents_checks : List ℕ → List Check
contents_checks b =
    (record { refusal = ShortBook; first = 0; count = 1; fault = λ _. ltb (length b) contents })
    ∷ count_check (count_at b)
    ∷ (record { refusal = WrongLayout; first = 1; count = 5; fault = layout_fault b })
    ∷ []

-- 8 (the event), 9 (place 0): four bytes of row space for each event
unfoldable pub event_checks : List ℕ → ℕ → List Check
event_checks b room =
    event_check (count_at b 3) (record_fault (event_body b))
    ∷ (record { refusal = ShortRows; first = 0; count = 1; fault = λ _. ltb room (count_at b 3 * 4) })
    ∷ []

-- RULES 5.2: 1 to 7, 24, 8 and 9 in order, each at its first offender
unfoldable pub check_of : List ℕ → ℕ → Verdict
check_of b room = first_fault (contents_checks b ++ (load_checks (tasks_of b) (locks_of b) (uses_of b) ++ event_checks b room))

-- what the check of a book comes to: what was refused, the book's plan and the place of its event body; a blank plan and 0 beside a refusal
pub record Checked : Type 0 where
  pub verdict : Verdict
  pub plan : Plan
  pub events : ℕ

abbrev pub passed_check : Plan → ℕ → Checked
passed_check p events = record { verdict = Ok tt; plan = p; events = events }

abbrev pub refused_check : Refusal → ℕ → Checked
refused_check why place = record { verdict = refused_at why place; plan = blank_plan; events = 0 }

unfoldable pub checked_as : Verdict → List ℕ → Checked
checked_as (Ok _) b = passed_check (plan_in b) (body_at b 3)
checked_as (Err f) b = refused_check f.why f.place

abbrev pub checked_of : List ℕ → ℕ → Checked
checked_of b room = checked_as (check_of b room) b

-- as the code answers it: what the book gives, or what was refused
unfoldable pub checked_with : Result Opened Fault → Checked
checked_with (Ok o) = passed_check o.plan o.events
checked_with (Err f) = refused_check f.why f.place
