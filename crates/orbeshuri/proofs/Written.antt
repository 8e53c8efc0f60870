-- The text that the program writes. Assumes nothing.
use Rattle.std.specs.Prelude.{Ok, Err}
use Rattle.rules.specs.Numbers.Verdict.{Verdict, refused_at}
use mathlib.Core.Path.{◌≡◌, refl, sym, ◌∙◌, ap}
use mathlib.Core.Logic.{⊎_elim}
use mathlib.Core.List.{List}
use Prim.Native.Nat.{ℕ, ◌≤◌, ◌<◌}
use native.Mathlib.Omega.{arith}
use lib.ListN.{length, take, replicate, length-replicate}
use lib.Seq.{take_all, length-take-le}
use Rattle.rules.specs.Numbers.Capacity.{max_tasks}
use Rattle.rules.specs.Books.Book.{check_of, checked_as, checked_of, largest_book}
use Rattle.rules.specs.Replays.Replay.{ran_as, replay_as, replay_of}
use Rattle.rules.specs.Replays.Run.{Ran}
use Rattle.rules.specs.Schedulers.State.{fresh_of}
use Rattle.rules.specs.declared.plan.Plan.{Plan}
use Rattle.rules.specs.declared.protocol.Protocol.{Protocol}
use Rattle.rules.specs.declared.refusal.Refusal.{Refusal}
use Rattle.rules.specs.declared.answer.Replayed.{Replayed}
use Rattle.rules.proofs.Numbers.Choice.{lt_or_le}
use Rattle.rules.proofs.Books.Cut.{cut_same, long_refused}
use Rattle.rules.proofs.Books.Obeyed.{few_tasks}
use Rattle.rules.proofs.Books.Passes.{passed_obeys}
use Rattle.report.specs.Report.{report_of}
use Rattle.office.specs.Ran.{row_space, ran_of}
use Rattle.orbeshuri.specs.Text.{input_space, reported, text_of}

-- the plan of a book, or the blank one, has no more tasks than there are places
tasks_by : (b : List ℕ) (room : ℕ) (v : Verdict) → check_of b room ≡ v → (checked_as v b).plan.tasks ≤ max_tasks
unfolding checked_as
tasks_by b room (Ok _) e = few_tasks (passed_obeys b room e)
tasks_by b room (Err f) e = omega arith

pub few_replayed : (b : List ℕ) (room : ℕ) (p : Plan) → p ≡ (checked_of b room).plan → p.tasks ≤ max_tasks
few_replayed b room p e = rw e (tasks_by b room (check_of b room) refl)

-- of a table with a place for every task, the first n
pub front_length : (xs : List ℕ) (n : ℕ) → length xs ≡ max_tasks → n ≤ max_tasks → length (take n xs) ≡ n
front_length xs n e h = length-take-le n xs (omega arith)

pub rows_room : length (replicate {A = ℕ} row_space 0) ≡ row_space
rows_room = length-replicate {A = ℕ} row_space 0

pub text_is : (pr : Protocol) (b rows : List ℕ) (r : Replayed) → ran_as r rows ≡ ran_of pr b → r.plan ≡ (checked_of b (length (replicate {A = ℕ} row_space 0))).plan
    → reported r rows ≡ text_of pr b
text_is pr b rows r ran planned =
    rw (planned, rows_room) (ap (λ (x : Ran). report_of x.verdict x.state.head.accepted x.rows x.state.head.lazy x.state.head.eager
    (take (checked_of b row_space).plan.tasks x.state.delay)) ran)

-- ---- an input that is longer than the buffer

-- the text of a refused book
pub refused_text : (pr : Protocol) (b : List ℕ) (why : Refusal) (place : ℕ) → check_of b row_space ≡ refused_at why place
    → text_of pr b ≡ report_of (refused_at why place) 0 (replicate row_space 0) 0 0 (take 0 fresh_of.delay)
unfolding replay_of replay_as checked_as
refused_text pr b why place e = rw (rows_room, e)

-- RULES 15.7: its front gives the text of the whole
pub cut_text : (pr : Protocol) (b : List ℕ) (n : ℕ) → n ≤ length b → largest_book < n → text_of pr (take n b) ≡ text_of pr b
cut_text pr b n long enough =
    let (why, place, e) = long_refused b (omega arith) row_space in
    refused_text pr (take n b) why place (cut_same b n long enough row_space ∙ e) ∙ sym (refused_text pr b why place e)

-- what the program reads of any input has the text of the whole: the largest book is shorter than its buffer
pub read_text : (pr : Protocol) (b : List ℕ) → text_of pr (take input_space b) ≡ text_of pr b
read_text pr b = ⊎_elim
    (λ (l : length b < input_space). ap (text_of pr) (take_all input_space b (omega arith)))
    (λ (l : input_space ≤ length b). cut_text pr b input_space l (omega arith))
    (lt_or_le (length b) input_space)
