-- RULES 19.7, 19.8: the text of a book. Assumes nothing.
use Rattle.std.specs.Prelude.{List, [], ◌∷◌, ◌++◌, ℕ, zero, suc, ◌+◌, ◌*◌, eqb, leb, ltb, length, Ok, Err, if◌then◌else◌}
use Rattle.rules.specs.Numbers.Verdict.{Verdict}
use Rattle.rules.specs.Numbers.Place.{at}
use Rattle.rules.specs.Numbers.Refusal.{number_of}
use Rattle.rules.specs.Books.Book.{check_of}
use Rattle.rules.specs.declared.refusal.Refusal.{Refusal}
use Rattle.rules.specs.declared.protocol.Protocol.TheVariants.{Second}
use Rattle.page.specs.Ascii.{ascii}
use Rattle.page.specs.Says.{says}
use Rattle.book.specs.Look.{entry_in, task_in, lock_in, use_in, event_in}
use Rattle.wording.specs.Mistakes.{refusal_words}
use Rattle.wording.specs.Records.{task_line, lock_line, use_line, event_line, ran_comment, refused_comment, unreached, size_line, entry_line}
use Rattle.office.specs.Ran.{row_space, ran_of}

-- the texts of f 0, f 1, .., f (n - 1), one after the other
unfoldable pub each : (ℕ → List ℕ) → ℕ → List ℕ
each f zero = []
each f (suc k) = each f k ++ f k

-- the first n tasks, locks and uses
unfoldable pub task_lines : List ℕ → ℕ → List ℕ
task_lines b n = each (λ k. task_line k (task_in b k)) n

unfoldable pub lock_lines : List ℕ → ℕ → List ℕ
lock_lines b n = each (λ k. lock_line k (lock_in b k)) n

unfoldable pub use_lines : List ℕ → ℕ → List ℕ
use_lines b n = each (λ k. use_line k (use_in b k)) n

-- an event with what came of it, in a run that ended with this verdict after so many accepted events, with these rows
unfoldable pub stop_comment : Verdict → ℕ → List ℕ
stop_comment (Ok _) n = unreached n
stop_comment (Err f) n = refused_comment n f.why

unfoldable pub comment_of : Verdict → (accepted : ℕ) → (rows : List ℕ) → ℕ → List ℕ
comment_of verdict accepted rows k =
    if ltb k accepted then ran_comment (k + 1) (at rows (k * 4)) (at rows (k * 4 + 1))
    else if eqb k accepted then stop_comment verdict (k + 1)
    else unreached (k + 1)

unfoldable pub event_lines : List ℕ → Verdict → (accepted : ℕ) → (rows : List ℕ) → ℕ → List ℕ
event_lines b verdict accepted rows n = each (λ k. event_line (event_in b k) (comment_of verdict accepted rows k)) n

-- the parts, each with a line that counts its records
unfoldable pub task_part : List ℕ → ℕ → List ℕ
task_part b n = says "# @ tasks: base, maximum\n" (n ∷ []) ++ task_lines b n

unfoldable pub lock_part : List ℕ → ℕ → List ℕ
lock_part b n = says "# @ locks: ceiling, limit\n" (n ∷ []) ++ lock_lines b n

unfoldable pub use_part : List ℕ → ℕ → List ℕ
use_part b n = says "# @ uses: task, lock\n" (n ∷ []) ++ use_lines b n

unfoldable pub event_part : List ℕ → Verdict → (accepted : ℕ) → (rows : List ℕ) → ℕ → List ℕ
event_part b verdict accepted rows n = says "# @ events\n" (n ∷ []) ++ event_lines b verdict accepted rows n

-- the first two, the last two, and all of them
unfoldable pub first_parts : List ℕ → List ℕ
first_parts b = task_part b (entry_in b 0).count ++ lock_part b (entry_in b 1).count

unfoldable pub last_parts : List ℕ → Verdict → (accepted : ℕ) → (rows : List ℕ) → List ℕ
last_parts b verdict accepted rows = use_part b (entry_in b 2).count ++ event_part b verdict accepted rows (entry_in b 3).count

unfoldable pub parts_of : List ℕ → Verdict → (accepted : ℕ) → (rows : List ℕ) → List ℕ
parts_of b verdict accepted rows = first_parts b ++ last_parts b verdict accepted rows

-- what can be read of a book whose contents are refused: its size and its entries
unfoldable pub entry_of : List ℕ → ℕ → List ℕ
entry_of b e = entry_line (e + 1) (entry_in b e).kind (entry_in b e).count (entry_in b e).offset

unfoldable pub entry_pair : List ℕ → ℕ → List ℕ
entry_pair b e = entry_of b e ++ entry_of b (e + 1)

unfoldable pub entries_of : List ℕ → List ℕ
entries_of b = size_line (length b) ++ entry_pair b 0 ++ entry_pair b 2

-- of a book that this number refuses
unfoldable pub refused_body : ℕ → List ℕ → List ℕ
refused_body number b =
    if eqb number 1 then size_line (length b)
    else if leb number 3 then entries_of b
    else parts_of b (Ok tt) 0 []

unfoldable pub refused_head : Refusal → ℕ → List ℕ
refused_head why place = ascii "# " ++ refusal_words why place

unfoldable pub shown_as : Verdict → List ℕ → List ℕ
shown_as (Ok _) b = parts_of b (ran_of Second b).verdict (ran_of Second b).state.head.accepted (ran_of Second b).rows
shown_as (Err f) b = refused_head f.why f.place ++ refused_body (number_of f.why) b

unfoldable pub shown_of : List ℕ → List ℕ
shown_of b = shown_as (check_of b row_space) b
