-- RULES 19.7, 19.8: the line of each record of a book, as a number, and of an entry of its contents. Assumes nothing.
use Rattle.std.specs.Prelude.{List, [], ◌∷◌, ◌++◌, ℕ, eqb, if◌then◌else◌}
use Rattle.rules.specs.Numbers.Capacity.{nobody}
use Rattle.rules.specs.Numbers.Refusal.{number_of}
use Rattle.rules.specs.Books.Event.{record_kind, record_id, record_amount, number_fault, number_event}
use Rattle.rules.specs.Books.Load.{task_base, task_maximum, lock_ceiling, lock_second, lock_limit, use_task, use_lock}
use Rattle.rules.specs.declared.event.Event.{Event}
use Rattle.rules.specs.declared.event.Event.TheVariants.{Release, Acquire, Unlock, Work, Finish, Tick}
use Rattle.rules.specs.declared.refusal.Refusal.{Refusal}
use Rattle.page.specs.Ascii.{ascii}
use Rattle.page.specs.Says.{says}
use Rattle.wording.specs.Meaning.{meaning_of}

-- the tasks, locks and uses, k being the record's number
unfoldable pub task_line : ℕ → ℕ → List ℕ
task_line k w = says "task @ @ # @\n" (task_base w ∷ task_maximum w ∷ k ∷ [])

-- a lock with something in its second byte has no words
unfoldable pub lock_line : ℕ → ℕ → List ℕ
lock_line k w =
    if eqb (lock_second w) 0 then says "lock @ @ # @\n" (lock_ceiling w ∷ lock_limit w ∷ k ∷ [])
    else says "# lock @ @ with @ in its second byte\n" (lock_ceiling w ∷ lock_limit w ∷ lock_second w ∷ [])

unfoldable pub use_line : ℕ → ℕ → List ℕ
use_line k w = says "use @ @ # @\n" (use_task w ∷ use_lock w ∷ k ∷ [])

-- an event
unfoldable pub event_words : Event → List ℕ
event_words (Release t) = says "release @" (t ∷ [])
event_words (Acquire l) = says "acquire @" (l ∷ [])
event_words (Unlock l) = says "unlock @" (l ∷ [])
event_words (Work a) = says "work @" (a ∷ [])
event_words Finish = ascii "finish"
event_words Tick = ascii "tick"

-- and one with a comment; a record that 8 refuses has no words
unfoldable pub no_event_line : ℕ → List ℕ
no_event_line w = says "# kind @, id @, amount @\n" (record_kind w ∷ record_id w ∷ record_amount w ∷ [])

unfoldable pub event_line : ℕ → List ℕ → List ℕ
event_line w comment = if number_fault w then no_event_line w else event_words (number_event w) ++ comment

-- its comment: n is the number of the event, which ran, was refused or was not reached
unfoldable pub ran_comment : (n task user : ℕ) → List ℕ
ran_comment n task user =
    if eqb task nobody then says " # event @: nobody runs\n" (n ∷ task ∷ user ∷ []) else says " # event @: task @ runs at @\n" (n ∷ task ∷ user ∷ [])

unfoldable pub refused_comment : ℕ → Refusal → List ℕ
refused_comment n why = says " # event @: refused @: " (n ∷ number_of why ∷ []) ++ meaning_of why ++ ascii "\n"

unfoldable pub unreached : ℕ → List ℕ
unreached n = says " # event @: not reached\n" (n ∷ [])

-- the size of a book, and entry e of its contents, counted from 0
unfoldable pub size_line : ℕ → List ℕ
size_line size = says "# the book has @ bytes\n" (size ∷ [])

unfoldable pub entry_line : (e kind count offset : ℕ) → List ℕ
entry_line e kind count offset = says "# entry @: kind @, @ records, offset @\n" (e ∷ kind ∷ count ∷ offset ∷ [])
