-- RULES 19.9: what the calls and the refusal of a replay were about. Assumes nothing.
use Rattle.std.specs.Prelude.{Bool, ◌&&◌, ◌||◌, List, [], ◌++◌, ℕ, ◌+◌, ◌*◌, ◌-◌, eqb, leb, ltb, length, Ok, Err, if◌then◌else◌}
use Rattle.rules.specs.Numbers.Verdict.{Verdict}
use Rattle.rules.specs.Numbers.Capacity.{max_locks}
use Rattle.rules.specs.Numbers.Place.{at, first_from}
use Rattle.rules.specs.Numbers.Refusal.{number_of}
use Rattle.rules.specs.Numbers.Row.{newest}
use Rattle.rules.specs.Books.Event.{record_id, record_amount}
use Rattle.rules.specs.Books.Book.{checked_of}
use Rattle.rules.specs.declared.plan.Plan.{Plan}
use Rattle.rules.specs.declared.state.State.{State}
use Rattle.rules.specs.declared.protocol.Protocol.{Protocol}
use Rattle.rules.specs.declared.refusal.Refusal.{Refusal}
use Rattle.page.specs.Ascii.{ascii}
use Rattle.book.specs.Look.{task_in, lock_in, use_in, event_in}
use Rattle.wording.specs.Mistakes.{refusal_words}
use Rattle.wording.specs.Records.{task_line, lock_line, use_line, no_event_line, size_line}
use Rattle.wording.specs.Reasons.{call_line, stop_line, reason_of}
use Rattle.wording.specs.declared.reason.Facts.{Facts}
use Rattle.office.specs.Ran.{row_space, ran_of}
use Rattle.office.specs.Show.{each, entry_of}

-- ---- the calls

-- that of event k, by its row and by the row before it
unfoldable pub call_text : List ℕ → (rows : List ℕ) → ℕ → List ℕ
call_text b rows k = call_line (k + 1) (at rows ((k - 1) * 4)) (record_id (event_in b k)) (at rows (k * 4)) (at rows (k * 4 + 1))

unfoldable pub call_of : List ℕ → (rows : List ℕ) → ℕ → List ℕ
call_of b rows k = if eqb (at rows (k * 4 + 3)) 1 then call_text b rows k else []

unfoldable pub call_lines : List ℕ → (rows : List ℕ) → ℕ → List ℕ
call_lines b rows n = each (call_of b rows) n

-- those of so many accepted events
unfoldable pub call_words : List ℕ → (rows : List ℕ) → (accepted lazy : ℕ) → List ℕ
call_words b rows accepted lazy = if eqb lazy 0 then ascii "no call of the kernel\n" else call_lines b rows accepted

-- ---- the refusal of an event

-- the least lock that task t has open and whose limit so many units more would pass; where there is none, the number of locks that there may be
unfoldable pub past_at : (limit owner units : List ℕ) → (t amount : ℕ) → ℕ → Bool
past_at limit owner units t amount l = eqb (at owner l) (t + 1) && ltb (at limit l) (at units l + amount)

unfoldable pub past_lock : (limit owner units : List ℕ) → (t amount : ℕ) → ℕ
past_lock limit owner units t amount = first_from (past_at limit owner units t amount) 0 max_locks

-- what the state says of an event's record w
unfoldable pub facts_of : Plan → State → ℕ → Facts
facts_of p s w =
    record {
      running = s.head.running;
      named = record_id w;
      amount = record_amount w;
      tasks = p.tasks;
      locks = p.locks;
      holder = at s.owner (record_id w) - 1;
      depth = at s.depth s.head.running;
      newest = newest (at s.takes s.head.running);
      past = past_lock p.limit s.owner s.units s.head.running (record_amount w);
      units = at s.units (past_lock p.limit s.owner s.units s.head.running (record_amount w));
      limit = at p.limit (past_lock p.limit s.owner s.units s.head.running (record_amount w));
    }

-- it is the event after those that were accepted
unfoldable pub stop_words : List ℕ → Plan → State → Refusal → List ℕ
stop_words b p s why = stop_line (s.head.accepted + 1) why ++ reason_of why (facts_of p s (event_in b s.head.accepted))

-- ---- the refusal of a book

-- what stands at the place of 2 or 3: an entry, or the book's end
unfoldable pub entry_place : List ℕ → ℕ → List ℕ
entry_place b place = if ltb 4 place then size_line (length b) else entry_of b (place - 1)

-- that of the others: a task, a lock, an event or a use
unfoldable pub record_words : ℕ → List ℕ → ℕ → List ℕ
record_words number b place =
    if eqb number 4 then task_line place (task_in b place)
    else if eqb number 5 then lock_line place (lock_in b place)
    else if eqb number 7 then lock_line place (lock_in b place)
    else if eqb number 8 then no_event_line (event_in b place)
    else use_line place (use_in b place)

unfoldable pub place_words : ℕ → List ℕ → ℕ → List ℕ
place_words number b place =
    if eqb number 1 then size_line (length b) else if leb number 3 then entry_place b place else record_words number b place

unfoldable pub book_words : List ℕ → Refusal → ℕ → List ℕ
book_words b why place = refusal_words why place ++ place_words (number_of why) b place

-- ---- the whole

-- 1 to 9 and 24 refuse a book, the others an event
unfoldable pub of_book : ℕ → Bool
of_book number = leb number 9 || eqb number 24

unfoldable pub refused_words : List ℕ → Plan → State → Refusal → ℕ → List ℕ
refused_words b p s why place = if of_book (number_of why) then book_words b why place else stop_words b p s why

unfoldable pub end_words : List ℕ → Plan → State → Verdict → List ℕ
end_words b p s (Ok _) = []
end_words b p s (Err f) = refused_words b p s f.why f.place

-- the heading and the calls, and all of it
unfoldable pub front_words : List ℕ → (rows : List ℕ) → (accepted lazy : ℕ) → List ℕ
front_words b rows accepted lazy = ascii "in words\n" ++ call_words b rows accepted lazy

unfoldable pub explained_as : List ℕ → (rows : List ℕ) → Plan → State → Verdict → List ℕ
explained_as b rows p s verdict = front_words b rows s.head.accepted s.head.lazy ++ end_words b p s verdict

unfoldable pub explained_of : Protocol → List ℕ → List ℕ
explained_of pr b = explained_as b (ran_of pr b).rows (checked_of b row_space).plan (ran_of pr b).state (ran_of pr b).verdict
