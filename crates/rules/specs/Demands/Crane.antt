-- RULES 18.1, 18.2, 18.6 to 18.8 and 18.10 to 18.12: the crane plan and its runs P1 to P12, one for the calls, those with takes of an open lock, by both
-- protocols, the plan with other users and other maxima, and the kernel's cut, as one table under one claim. Assumes nothing.
use Rattle.std.specs.Prelude.{Bool, true, false, ◌&&◌, List, [], ◌∷◌, ◌++◌, ℕ, suc, T, eqb, length, replicate, take, drop, Ok, Err, if◌then◌else◌}
use Rattle.rules.specs.Numbers.Verdict.{Verdict, Answer}
use Rattle.rules.specs.Numbers.Choice.{all_true}
use Rattle.rules.specs.Numbers.Place.{every, any, count, greatest, first_from, from, tabulate, renewed, zeros}
use Rattle.rules.specs.Numbers.Refusal.{number_of, first_true, found, first_fault}
use Rattle.rules.specs.Numbers.Answer.{answer_number, verdict_number, verdict_place}
use Rattle.rules.specs.Books.Event.{event_fault, event_of, number_fault}
use Rattle.rules.specs.Numbers.Mask.{has_bit, with_bit}
use Rattle.rules.specs.Books.Plan.{most, count_fault, task_fault, lock_fault, declares, users, users_base, users_fault, ceiling_fault}
use Rattle.rules.specs.Books.Plan.{maximum_fault, above_fault}
use Rattle.rules.specs.Books.Load.{task_fault_at, lock_fault_at, count_fault_of, use_fault, use_above, masks_of, plan_of, record_checks, load_checks, loaded_as, load_of}
use Rattle.rules.specs.Books.Book.{size_of, body_at, layout_fault, contents_checks, event_checks, check_of}
use Rattle.rules.specs.Books.Bytes.{word_bytes, long_bytes, book_of}
use Rattle.rules.specs.Books.Write.{whole_checks, write_checks, wrote_as, write_of}
use Rattle.rules.specs.Schedulers.State.{fresh_of}
use Rattle.rules.specs.Numbers.Row.{has, priority, saves}
use Rattle.rules.specs.Schedulers.Figures.{Figures, holds, priority_of, rank_of}
use Rattle.rules.specs.Schedulers.Elect.{earlier, earliest, elected}
use Rattle.rules.specs.Schedulers.EventRefusals.{elsewhere, not_newest, past_limit, tests_of, release_order}
use Rattle.rules.specs.Schedulers.EventRefusals.{acquire_order, unlock_order, work_order, finish_order, refusal_of}
use Rattle.rules.specs.Schedulers.FiguresAfter.{differs, eager_calls, stays_open, left_of, charged, delayed, figures_after}
use Rattle.rules.specs.Schedulers.Eager.{running_of, settle, eager_test, eager_step}
use Rattle.rules.specs.Schedulers.Protocol.{second_word}
use Rattle.rules.specs.Schedulers.Lazy.{Words, calls_for, cut_to, entering, runs_on, switched, stays, after_release, after_acquire}
use Rattle.rules.specs.Schedulers.Lazy.{restored, leaves, after_unlock, words_after, lazy_call}
use Rattle.rules.specs.Soundness.Sound.{kept_of, saved_of, owner_of}
use Rattle.rules.specs.Soundness.SoundTest.{task_obeys, lock_obeys, spare_obeys, obeys, row_test, own_test, number_new}
use Rattle.rules.specs.Soundness.SoundTest.{number_test, task_test, lock_test, runs_test, second_test, head_test, spare_test, sound_test}
use Rattle.rules.specs.Replays.Step.{after_of, answered, act_of, step_of}
use Rattle.rules.specs.Replays.Run.{with_row, onward, run_from}
use Rattle.rules.specs.Replays.Replay.{replay_as, replay_of}
use Rattle.rules.specs.Demands.History.{eager_at, lazy_at, runner_at}
use Rattle.rules.specs.Demands.Bound.{lower_at, lower_user, may_block, limit_if, longest_limit, bound_of}
use Rattle.rules.specs.declared.plan.Plan.{Plan}
use Rattle.rules.specs.declared.protocol.Protocol.{Protocol}
use Rattle.rules.specs.declared.protocol.Protocol.TheVariants.{Second, First}
use Rattle.rules.specs.declared.state.State.{State}
use Rattle.rules.specs.declared.event.Event.{Event}
use Rattle.rules.specs.declared.event.Event.TheVariants.{Release, Acquire, Unlock, Work, Finish, Tick}

-- RULES 18.1: the maximum and base of four tasks; the limit and ceiling of two locks; the lock and task of four uses; and the events of P1: amount, id and
-- kind
task_numbers : List ℕ
task_numbers = 0x0501 ∷ 0x0503 ∷ 0x0505 ∷ 0x0707 ∷ []

lock_numbers : List ℕ
lock_numbers = 0x4_0005 ∷ 0xa_0003 ∷ []

use_numbers : List ℕ
use_numbers = 0x0000 ∷ 0x0100 ∷ 0x0101 ∷ 0x0002 ∷ []

event_numbers : List ℕ
event_numbers = 0x0001 ∷ 0x0002 ∷ 0x0101 ∷ 0x2_0004 ∷ 0x0003 ∷ 0x0005 ∷ 0x0005 ∷ []

crane : Plan
crane = plan_of task_numbers lock_numbers use_numbers

-- RULES 18.11: the plan of the paper's run: a task at 1, and locks at 2 and 3
paper : Plan
paper = plan_of (0x0301 ∷ 0x0202 ∷ 0x0303 ∷ []) (0x4_0002 ∷ 0x2_0003 ∷ []) (0x0000 ∷ 0x0100 ∷ 0x0001 ∷ 0x0102 ∷ [])

-- the book of P1: contents, tasks, locks, uses, events
unfoldable pub book : List ℕ
book =
    1 ∷ 0 ∷ 4 ∷ 0 ∷ 32 ∷ 0 ∷ 0 ∷ 0
    ∷ 2 ∷ 0 ∷ 2 ∷ 0 ∷ 40 ∷ 0 ∷ 0 ∷ 0
    ∷ 3 ∷ 0 ∷ 4 ∷ 0 ∷ 48 ∷ 0 ∷ 0 ∷ 0
    ∷ 4 ∷ 0 ∷ 7 ∷ 0 ∷ 56 ∷ 0 ∷ 0 ∷ 0
    ∷ 1 ∷ 5 ∷ 3 ∷ 5 ∷ 5 ∷ 5 ∷ 7 ∷ 7
    ∷ 5 ∷ 0 ∷ 4 ∷ 0 ∷ 3 ∷ 0 ∷ 10 ∷ 0
    ∷ 0 ∷ 0 ∷ 0 ∷ 1 ∷ 1 ∷ 1 ∷ 2 ∷ 0
    ∷ 1 ∷ 0 ∷ 0 ∷ 0
    ∷ 2 ∷ 0 ∷ 0 ∷ 0
    ∷ 1 ∷ 1 ∷ 0 ∷ 0
    ∷ 4 ∷ 0 ∷ 2 ∷ 0
    ∷ 3 ∷ 0 ∷ 0 ∷ 0
    ∷ 5 ∷ 0 ∷ 0 ∷ 0
    ∷ 5 ∷ 0 ∷ 0 ∷ 0
    ∷ []

-- a case of the table
data Case : Type 0 where
  -- a list of events of a plan from a fresh start; a row for each (running, user word, next word, call; and by the first protocol, where running and user word
  -- are the same, kernel word, call), or the number of the refusal that ends the run; and the end by both
  run : Plan → List Event → List (List ℕ) → List ℕ → List ℕ → Case
  -- the bounds of the four tasks
  bounds : List ℕ → Case
  -- a book by a protocol, its row bytes, and the end
  replay : Protocol → List ℕ → List ℕ → List ℕ → Case
  -- the plan with events as numbers, written into so many bytes of 7: the number, the place and the length, and the bytes
  write : List ℕ → ℕ → List ℕ → List ℕ → Case
  -- the crane's locks with these tasks, uses and events: the number and the place that a load of the plan, the check of the book and the writer give, and the
  -- number of a tick in a fresh state
  with_plan : (tasks uses : List ℕ) → ℕ → ℕ → ℕ → Case
  with_book : (tasks uses events : List ℕ) → ℕ → ℕ → Case
  -- words that no rule gives, so that there is something to cut: task 0, of maximum 5, runs with this user word, second word and saved word, and task 1 waits
  -- at 3. Who runs after an event, the user and the second word (by the first protocol the last of them), the lazy calls, and what is kept for the four tasks
  words : (user second saved : ℕ) → Event → List ℕ → ℕ → Case

-- the end: the running task, the user and the second word and the lazy calls; and the eager calls and the delays of the four tasks
end_of : State → List ℕ
end_of s = s.head.running ∷ s.head.user.0 ∷ s.head.next.0 ∷ s.head.lazy ∷ s.head.eager ∷ take 4 s.delay

-- of a row by both protocols, or of an end, what the one of them gives
row_by : Protocol → List ℕ → List ℕ
row_by Second row = take 4 row
row_by First row = take 2 row ++ drop 4 row

row_of : Answer → State → (State → List (List ℕ)) → List (List ℕ)
row_of (Ok call) s rest = (s.head.running ∷ s.head.user.0 ∷ s.head.next.0 ∷ (if call then 1 else 0) ∷ []) ∷ rest s
row_of (Err why) s rest = (number_of why ∷ []) ∷ []

rows_of : Protocol → Plan → State → List Event → List (List ℕ)
rows_of pr p s [] = []
rows_of pr p s (e ∷ es) = row_of (step_of pr p s e).answer (step_of pr p s e).state (λ t. rows_of pr p t es)

same : List ℕ → List ℕ → Bool
same [] [] = true
same [] (y ∷ ys) = false
same (x ∷ xs) [] = false
same (x ∷ xs) (y ∷ ys) = eqb x y && same xs ys

-- the rows of a run by the one protocol are those of the table
sames : Protocol → List (List ℕ) → List (List ℕ) → Bool
sames pr [] [] = true
sames pr [] (y ∷ ys) = false
sames pr (x ∷ xs) [] = false
sames pr (x ∷ xs) (y ∷ ys) = same x (row_by pr y) && sames pr xs ys

-- the running task of the one scheduler is that of the other at place k
agree : Protocol → Plan → List Event → ℕ → Bool
agree pr p es k = eqb (lazy_at pr p es k).head.running (runner_at p es k)

-- the run of a list by the one protocol, with its end in two parts
ran_right : Protocol → Plan → List Event → List (List ℕ) → List ℕ → List ℕ → Bool
ran_right pr p es rows end rest =
    sames pr (rows_of pr p fresh_of es) rows && same (end_of (lazy_at pr p es (length es))) (row_by pr end ++ rest) && every (agree pr p es) (suc (length es))

-- a verdict has this number and place
given : ℕ → ℕ → Verdict → Bool
given number place v = same (verdict_number v ∷ verdict_place v ∷ []) (number ∷ place ∷ [])

book_right : (tasks uses events : List ℕ) → ℕ → ℕ → Bool
book_right tasks uses events number place =
    given number place (check_of (book_of tasks lock_numbers uses events) 28) && given number place (write_of tasks lock_numbers uses events (replicate 84 7)).verdict

words_with : (user second saved : ℕ) → Words
words_with user second saved =
    record {
      running = 0;
      user = user;
      next = second;
      lazy = 0;
      kept = 0 ∷ 3 ∷ 0 ∷ 0 ∷ [];
      saved = saved ∷ 0 ∷ 0 ∷ 0 ∷ [];
      owner = 1 ∷ 0 ∷ [];
    }

-- beside figures in which task 0 has one take, of lock 0
one_take : Figures
one_take =
    record {
      accepted = 2;
      eager = 0;
      released = 1 ∷ 2 ∷ 0 ∷ 0 ∷ [];
      delay = replicate 4 0;
      depth = 1 ∷ 0 ∷ 0 ∷ 0 ∷ [];
      takes = replicate 4 0;
      units = replicate 2 0;
    }

words_right : Protocol → Words → Event → List ℕ
words_right pr w e =
    let v = words_after pr crane one_take (1 ∷ 2 ∷ 3 ∷ 3 ∷ []) w e in v.running ∷ v.user ∷ v.next ∷ v.lazy ∷ v.kept

right : Case → Bool
right (run p es rows end rest) = ran_right Second p es rows end rest && ran_right First p es rows end rest
right (bounds bs) = same (tabulate 4 (bound_of crane)) bs
right (replay pr b rows end) =
    let r = replay_of pr b (replicate (length rows) 0) in eqb (verdict_number r.verdict) 0 && same r.rows rows && same (end_of r.state) end
right (write events room answer bytes) =
    let w = write_of task_numbers lock_numbers use_numbers events (replicate room 7) in
    same (verdict_number w.verdict ∷ verdict_place w.verdict ∷ w.length ∷ []) answer && same w.bytes bytes
right (with_plan tasks uses number place tick) =
    given number place (load_of tasks lock_numbers uses).verdict && book_right tasks uses event_numbers number place
    && eqb (answer_number (step_of Second (plan_of tasks lock_numbers uses) fresh_of Tick).answer) tick
right (with_book tasks uses events number place) = book_right tasks uses events number place
right (words user second saved e after kernelWord) =
    same (words_right Second (words_with user second saved) e) after
    && same (words_right First (words_with user second saved) e) (take 2 after ++ kernelWord ∷ drop 3 after)

all : List Case → Bool
all [] = true
all (c ∷ cs) = right c && all cs

cases : List Case
cases =
    -- P1, as a book of 84 bytes and as a run: calls 1 2, delayed 0 2 0 0
    replay Second book
    (0 ∷ 1 ∷ 0 ∷ 0 ∷ 0 ∷ 5 ∷ 0 ∷ 0 ∷ 0 ∷ 5 ∷ 3 ∷ 0 ∷ 0 ∷ 5 ∷ 3 ∷ 0 ∷ 1 ∷ 3 ∷ 1 ∷ 1 ∷ 0 ∷ 1 ∷ 0 ∷ 0 ∷ 255 ∷ 0 ∷ 0 ∷ 0 ∷ [])
    (255 ∷ 0 ∷ 0 ∷ 1 ∷ 2 ∷ 0 ∷ 2 ∷ 0 ∷ 0 ∷ [])
    ∷ replay First book
    (0 ∷ 1 ∷ 1 ∷ 0 ∷ 0 ∷ 5 ∷ 1 ∷ 0 ∷ 0 ∷ 5 ∷ 5 ∷ 0 ∷ 0 ∷ 5 ∷ 5 ∷ 0 ∷ 1 ∷ 3 ∷ 3 ∷ 1 ∷ 0 ∷ 1 ∷ 1 ∷ 0 ∷ 255 ∷ 0 ∷ 0 ∷ 0 ∷ [])
    (255 ∷ 0 ∷ 0 ∷ 1 ∷ 2 ∷ 0 ∷ 2 ∷ 0 ∷ 0 ∷ [])
    -- that book, written: into a buffer with two bytes more, and into one that is a byte too short; and with a last event of no kind, whose 8 comes before 23
    ∷ write event_numbers 86 (0 ∷ 0 ∷ 84 ∷ []) (book ++ replicate 2 7)
    ∷ write event_numbers 83 (23 ∷ 0 ∷ 0 ∷ []) (replicate 83 7)
    ∷ write (event_numbers ++ 0x0007 ∷ []) 83 (8 ∷ 7 ∷ 0 ∷ []) (replicate 83 7)
    ∷ run crane (Release 0 ∷ Acquire 0 ∷ Release 1 ∷ Work 2 ∷ Unlock 0 ∷ Finish ∷ Finish ∷ [])
    ((0 ∷ 1 ∷ 0 ∷ 0 ∷ 1 ∷ 0 ∷ []) ∷ (0 ∷ 5 ∷ 0 ∷ 0 ∷ 1 ∷ 0 ∷ []) ∷ (0 ∷ 5 ∷ 3 ∷ 0 ∷ 5 ∷ 0 ∷ []) ∷ (0 ∷ 5 ∷ 3 ∷ 0 ∷ 5 ∷ 0 ∷ [])
    ∷ (1 ∷ 3 ∷ 1 ∷ 1 ∷ 3 ∷ 1 ∷ []) ∷ (0 ∷ 1 ∷ 0 ∷ 0 ∷ 1 ∷ 0 ∷ []) ∷ (255 ∷ 0 ∷ 0 ∷ 0 ∷ 0 ∷ 0 ∷ []) ∷ [])
    (255 ∷ 0 ∷ 0 ∷ 1 ∷ 0 ∷ 1 ∷ []) (2 ∷ 0 ∷ 2 ∷ 0 ∷ 0 ∷ [])
    -- P2: the inner unlock restores 3, as great as the next word, and does not call; the outer one does, and task 1 runs. The kernel word is 5 since the
    -- release, so by the first protocol the inner one calls too, and task 0 runs again
    ∷ run crane (Release 0 ∷ Acquire 1 ∷ Acquire 0 ∷ Release 1 ∷ Unlock 0 ∷ Unlock 1 ∷ [])
    ((0 ∷ 1 ∷ 0 ∷ 0 ∷ 1 ∷ 0 ∷ []) ∷ (0 ∷ 3 ∷ 0 ∷ 0 ∷ 1 ∷ 0 ∷ []) ∷ (0 ∷ 5 ∷ 0 ∷ 0 ∷ 1 ∷ 0 ∷ []) ∷ (0 ∷ 5 ∷ 3 ∷ 0 ∷ 5 ∷ 0 ∷ [])
    ∷ (0 ∷ 3 ∷ 3 ∷ 0 ∷ 3 ∷ 1 ∷ []) ∷ (1 ∷ 3 ∷ 1 ∷ 1 ∷ 3 ∷ 1 ∷ []) ∷ [])
    (1 ∷ 3 ∷ 1 ∷ 1 ∷ 3 ∷ 2 ∷ []) (4 ∷ 0 ∷ 0 ∷ 0 ∷ 0 ∷ [])
    -- P3: task 2 waits while both words are 5, until the unlock calls
    ∷ run crane (Release 0 ∷ Acquire 0 ∷ Release 2 ∷ Unlock 0 ∷ [])
    ((0 ∷ 1 ∷ 0 ∷ 0 ∷ 1 ∷ 0 ∷ []) ∷ (0 ∷ 5 ∷ 0 ∷ 0 ∷ 1 ∷ 0 ∷ []) ∷ (0 ∷ 5 ∷ 5 ∷ 0 ∷ 5 ∷ 0 ∷ []) ∷ (2 ∷ 5 ∷ 1 ∷ 1 ∷ 5 ∷ 1 ∷ []) ∷ [])
    (2 ∷ 5 ∷ 1 ∷ 1 ∷ 5 ∷ 1 ∷ []) (2 ∷ 0 ∷ 0 ∷ 0 ∷ 0 ∷ [])
    -- P4: after task 3 has finished task 0 runs again, and not task 2
    ∷ run crane (Release 0 ∷ Acquire 0 ∷ Release 2 ∷ Release 3 ∷ Finish ∷ [])
    ((0 ∷ 1 ∷ 0 ∷ 0 ∷ 1 ∷ 0 ∷ []) ∷ (0 ∷ 5 ∷ 0 ∷ 0 ∷ 1 ∷ 0 ∷ []) ∷ (0 ∷ 5 ∷ 5 ∷ 0 ∷ 5 ∷ 0 ∷ []) ∷ (3 ∷ 7 ∷ 5 ∷ 0 ∷ 7 ∷ 0 ∷ [])
    ∷ (0 ∷ 5 ∷ 5 ∷ 0 ∷ 5 ∷ 0 ∷ []) ∷ [])
    (0 ∷ 5 ∷ 5 ∷ 0 ∷ 5 ∷ 0 ∷ []) (1 ∷ 0 ∷ 0 ∷ 0 ∷ 0 ∷ [])
    -- P5: a section is worked up to its limit, and one unit more is refused
    ∷ run crane (Release 0 ∷ Acquire 0 ∷ Work 4 ∷ Work 1 ∷ [])
    ((0 ∷ 1 ∷ 0 ∷ 0 ∷ 1 ∷ 0 ∷ []) ∷ (0 ∷ 5 ∷ 0 ∷ 0 ∷ 1 ∷ 0 ∷ []) ∷ (0 ∷ 5 ∷ 0 ∷ 0 ∷ 1 ∷ 0 ∷ []) ∷ (21 ∷ []) ∷ [])
    (0 ∷ 5 ∷ 0 ∷ 0 ∷ 1 ∷ 0 ∷ []) (1 ∷ 0 ∷ 0 ∷ 0 ∷ 0 ∷ [])
    -- P6: the newest take is of another lock
    ∷ run crane (Release 0 ∷ Acquire 1 ∷ Acquire 0 ∷ Unlock 1 ∷ [])
    ((0 ∷ 1 ∷ 0 ∷ 0 ∷ 1 ∷ 0 ∷ []) ∷ (0 ∷ 3 ∷ 0 ∷ 0 ∷ 1 ∷ 0 ∷ []) ∷ (0 ∷ 5 ∷ 0 ∷ 0 ∷ 1 ∷ 0 ∷ []) ∷ (19 ∷ []) ∷ [])
    (0 ∷ 5 ∷ 0 ∷ 0 ∷ 1 ∷ 0 ∷ []) (2 ∷ 0 ∷ 0 ∷ 0 ∷ 0 ∷ [])
    -- P7: a lock is open
    ∷ run crane (Release 0 ∷ Acquire 0 ∷ Finish ∷ [])
    ((0 ∷ 1 ∷ 0 ∷ 0 ∷ 1 ∷ 0 ∷ []) ∷ (0 ∷ 5 ∷ 0 ∷ 0 ∷ 1 ∷ 0 ∷ []) ∷ (22 ∷ []) ∷ [])
    (0 ∷ 5 ∷ 0 ∷ 0 ∷ 1 ∷ 0 ∷ []) (1 ∷ 0 ∷ 0 ∷ 0 ∷ 0 ∷ [])
    -- P8: released twice
    ∷ run crane (Release 0 ∷ Release 0 ∷ [])
    ((0 ∷ 1 ∷ 0 ∷ 0 ∷ 1 ∷ 0 ∷ []) ∷ (14 ∷ []) ∷ [])
    (0 ∷ 1 ∷ 0 ∷ 0 ∷ 1 ∷ 0 ∷ []) (0 ∷ 0 ∷ 0 ∷ 0 ∷ 0 ∷ [])
    -- P9: no use of the lock
    ∷ run crane (Release 1 ∷ Acquire 0 ∷ [])
    ((1 ∷ 3 ∷ 0 ∷ 0 ∷ 3 ∷ 0 ∷ []) ∷ (15 ∷ []) ∷ [])
    (1 ∷ 3 ∷ 0 ∷ 0 ∷ 3 ∷ 0 ∷ []) (0 ∷ 0 ∷ 0 ∷ 0 ∷ 0 ∷ [])
    -- P10: the fresh start
    ∷ run crane [] []
    (255 ∷ 0 ∷ 0 ∷ 0 ∷ 0 ∷ 0 ∷ []) (0 ∷ 0 ∷ 0 ∷ 0 ∷ 0 ∷ [])
    -- P11: the bounds
    ∷ bounds (0 ∷ 10 ∷ 4 ∷ 0 ∷ [])
    -- P12: task 1 is delayed by its bound, and one unit more is refused
    ∷ run crane (Release 0 ∷ Acquire 1 ∷ Release 1 ∷ Work 10 ∷ Work 1 ∷ [])
    ((0 ∷ 1 ∷ 0 ∷ 0 ∷ 1 ∷ 0 ∷ []) ∷ (0 ∷ 3 ∷ 0 ∷ 0 ∷ 1 ∷ 0 ∷ []) ∷ (0 ∷ 3 ∷ 3 ∷ 0 ∷ 3 ∷ 0 ∷ []) ∷ (0 ∷ 3 ∷ 3 ∷ 0 ∷ 3 ∷ 0 ∷ []) ∷ (21 ∷ []) ∷ [])
    (0 ∷ 3 ∷ 3 ∷ 0 ∷ 3 ∷ 0 ∷ []) (1 ∷ 0 ∷ 10 ∷ 0 ∷ 0 ∷ [])
    -- RULES 18.6: of six acquires and unlocks two change a priority, and are eager calls. Lock 1 inside lock 0 changes none, nor does it for task 1, whose
    -- base is its ceiling; and a tick is no call. By the first protocol it sets the kernel word inside the section, so that the unlock calls
    ∷ run crane (Release 0 ∷ Acquire 0 ∷ Acquire 1 ∷ Unlock 1 ∷ Tick ∷ Unlock 0 ∷ Finish ∷ Release 1 ∷ Acquire 1 ∷ Unlock 1 ∷ Finish ∷ [])
    ((0 ∷ 1 ∷ 0 ∷ 0 ∷ 1 ∷ 0 ∷ []) ∷ (0 ∷ 5 ∷ 0 ∷ 0 ∷ 1 ∷ 0 ∷ []) ∷ (0 ∷ 5 ∷ 0 ∷ 0 ∷ 1 ∷ 0 ∷ []) ∷ (0 ∷ 5 ∷ 0 ∷ 0 ∷ 1 ∷ 0 ∷ [])
    ∷ (0 ∷ 5 ∷ 0 ∷ 0 ∷ 5 ∷ 0 ∷ []) ∷ (0 ∷ 1 ∷ 0 ∷ 0 ∷ 1 ∷ 1 ∷ []) ∷ (255 ∷ 0 ∷ 0 ∷ 0 ∷ 0 ∷ 0 ∷ []) ∷ (1 ∷ 3 ∷ 0 ∷ 0 ∷ 3 ∷ 0 ∷ [])
    ∷ (1 ∷ 3 ∷ 0 ∷ 0 ∷ 3 ∷ 0 ∷ []) ∷ (1 ∷ 3 ∷ 0 ∷ 0 ∷ 3 ∷ 0 ∷ []) ∷ (255 ∷ 0 ∷ 0 ∷ 0 ∷ 0 ∷ 0 ∷ []) ∷ [])
    (255 ∷ 0 ∷ 0 ∷ 0 ∷ 0 ∷ 1 ∷ []) (2 ∷ 0 ∷ 0 ∷ 0 ∷ 0 ∷ [])
    -- RULES 18.11: the paper's run. The second take of lock 0, inside lock 1, raises nothing, and its unlock restores what was
    ∷ run paper (Release 0 ∷ Acquire 0 ∷ Acquire 1 ∷ Acquire 0 ∷ Unlock 0 ∷ Unlock 1 ∷ Unlock 0 ∷ Finish ∷ [])
    ((0 ∷ 1 ∷ 0 ∷ 0 ∷ 1 ∷ 0 ∷ []) ∷ (0 ∷ 2 ∷ 0 ∷ 0 ∷ 1 ∷ 0 ∷ []) ∷ (0 ∷ 3 ∷ 0 ∷ 0 ∷ 1 ∷ 0 ∷ []) ∷ (0 ∷ 3 ∷ 0 ∷ 0 ∷ 1 ∷ 0 ∷ [])
    ∷ (0 ∷ 3 ∷ 0 ∷ 0 ∷ 1 ∷ 0 ∷ []) ∷ (0 ∷ 2 ∷ 0 ∷ 0 ∷ 1 ∷ 0 ∷ []) ∷ (0 ∷ 1 ∷ 0 ∷ 0 ∷ 1 ∷ 0 ∷ []) ∷ (255 ∷ 0 ∷ 0 ∷ 0 ∷ 0 ∷ 0 ∷ []) ∷ [])
    (255 ∷ 0 ∷ 0 ∷ 0 ∷ 0 ∷ 0 ∷ []) (4 ∷ 0 ∷ 0 ∷ 0 ∷ 0 ∷ [])
    -- RULES 18.12, T1: the units of a section are counted over both takes, once, up to its limit
    ∷ run crane (Release 0 ∷ Acquire 0 ∷ Work 1 ∷ Acquire 0 ∷ Release 2 ∷ Work 2 ∷ Unlock 0 ∷ Work 1 ∷ Work 1 ∷ [])
    ((0 ∷ 1 ∷ 0 ∷ 0 ∷ 1 ∷ 0 ∷ []) ∷ (0 ∷ 5 ∷ 0 ∷ 0 ∷ 1 ∷ 0 ∷ []) ∷ (0 ∷ 5 ∷ 0 ∷ 0 ∷ 1 ∷ 0 ∷ []) ∷ (0 ∷ 5 ∷ 0 ∷ 0 ∷ 1 ∷ 0 ∷ [])
    ∷ (0 ∷ 5 ∷ 5 ∷ 0 ∷ 5 ∷ 0 ∷ []) ∷ (0 ∷ 5 ∷ 5 ∷ 0 ∷ 5 ∷ 0 ∷ []) ∷ (0 ∷ 5 ∷ 5 ∷ 0 ∷ 5 ∷ 0 ∷ []) ∷ (0 ∷ 5 ∷ 5 ∷ 0 ∷ 5 ∷ 0 ∷ []) ∷ (21 ∷ []) ∷ [])
    (0 ∷ 5 ∷ 5 ∷ 0 ∷ 5 ∷ 0 ∷ []) (1 ∷ 0 ∷ 0 ∷ 3 ∷ 0 ∷ [])
    -- T2: the lock is given back with its last take, so the second unlock calls
    ∷ run crane (Release 0 ∷ Acquire 0 ∷ Work 1 ∷ Acquire 0 ∷ Release 2 ∷ Work 2 ∷ Unlock 0 ∷ Work 1 ∷ Unlock 0 ∷ Finish ∷ [])
    ((0 ∷ 1 ∷ 0 ∷ 0 ∷ 1 ∷ 0 ∷ []) ∷ (0 ∷ 5 ∷ 0 ∷ 0 ∷ 1 ∷ 0 ∷ []) ∷ (0 ∷ 5 ∷ 0 ∷ 0 ∷ 1 ∷ 0 ∷ []) ∷ (0 ∷ 5 ∷ 0 ∷ 0 ∷ 1 ∷ 0 ∷ [])
    ∷ (0 ∷ 5 ∷ 5 ∷ 0 ∷ 5 ∷ 0 ∷ []) ∷ (0 ∷ 5 ∷ 5 ∷ 0 ∷ 5 ∷ 0 ∷ []) ∷ (0 ∷ 5 ∷ 5 ∷ 0 ∷ 5 ∷ 0 ∷ []) ∷ (0 ∷ 5 ∷ 5 ∷ 0 ∷ 5 ∷ 0 ∷ [])
    ∷ (2 ∷ 5 ∷ 1 ∷ 1 ∷ 5 ∷ 1 ∷ []) ∷ (0 ∷ 1 ∷ 0 ∷ 0 ∷ 1 ∷ 0 ∷ []) ∷ [])
    (0 ∷ 1 ∷ 0 ∷ 1 ∷ 1 ∷ 1 ∷ []) (2 ∷ 0 ∷ 0 ∷ 3 ∷ 0 ∷ [])
    -- T3: a take again inside a nest; both sections come to their limits, and the last one starts at 0
    ∷ run crane (Release 0 ∷ Acquire 1 ∷ Work 3 ∷ Acquire 0 ∷ Acquire 1 ∷ Work 4 ∷ Unlock 1 ∷ Unlock 0 ∷ Work 3 ∷ Unlock 1 ∷ Acquire 1 ∷ Work 10 ∷ [])
    ((0 ∷ 1 ∷ 0 ∷ 0 ∷ 1 ∷ 0 ∷ []) ∷ (0 ∷ 3 ∷ 0 ∷ 0 ∷ 1 ∷ 0 ∷ []) ∷ (0 ∷ 3 ∷ 0 ∷ 0 ∷ 1 ∷ 0 ∷ []) ∷ (0 ∷ 5 ∷ 0 ∷ 0 ∷ 1 ∷ 0 ∷ [])
    ∷ (0 ∷ 5 ∷ 0 ∷ 0 ∷ 1 ∷ 0 ∷ []) ∷ (0 ∷ 5 ∷ 0 ∷ 0 ∷ 1 ∷ 0 ∷ []) ∷ (0 ∷ 5 ∷ 0 ∷ 0 ∷ 1 ∷ 0 ∷ []) ∷ (0 ∷ 3 ∷ 0 ∷ 0 ∷ 1 ∷ 0 ∷ [])
    ∷ (0 ∷ 3 ∷ 0 ∷ 0 ∷ 1 ∷ 0 ∷ []) ∷ (0 ∷ 1 ∷ 0 ∷ 0 ∷ 1 ∷ 0 ∷ []) ∷ (0 ∷ 3 ∷ 0 ∷ 0 ∷ 1 ∷ 0 ∷ []) ∷ (0 ∷ 3 ∷ 0 ∷ 0 ∷ 1 ∷ 0 ∷ []) ∷ [])
    (0 ∷ 3 ∷ 0 ∷ 0 ∷ 1 ∷ 0 ∷ []) (5 ∷ 0 ∷ 0 ∷ 0 ∷ 0 ∷ [])
    -- T4: one take of two is given back
    ∷ run crane (Release 0 ∷ Acquire 0 ∷ Acquire 0 ∷ Unlock 0 ∷ Finish ∷ [])
    ((0 ∷ 1 ∷ 0 ∷ 0 ∷ 1 ∷ 0 ∷ []) ∷ (0 ∷ 5 ∷ 0 ∷ 0 ∷ 1 ∷ 0 ∷ []) ∷ (0 ∷ 5 ∷ 0 ∷ 0 ∷ 1 ∷ 0 ∷ []) ∷ (0 ∷ 5 ∷ 0 ∷ 0 ∷ 1 ∷ 0 ∷ []) ∷ (22 ∷ []) ∷ [])
    (0 ∷ 5 ∷ 0 ∷ 0 ∷ 1 ∷ 0 ∷ []) (1 ∷ 0 ∷ 0 ∷ 0 ∷ 0 ∷ [])
    -- T5: eight takes of one lock, and a ninth
    ∷ run crane (Release 0 ∷ Acquire 0 ∷ Acquire 0 ∷ Acquire 0 ∷ Acquire 0 ∷ Acquire 0 ∷ Acquire 0 ∷ Acquire 0 ∷ Acquire 0 ∷ Acquire 0 ∷ [])
    ((0 ∷ 1 ∷ 0 ∷ 0 ∷ 1 ∷ 0 ∷ []) ∷ (0 ∷ 5 ∷ 0 ∷ 0 ∷ 1 ∷ 0 ∷ []) ∷ (0 ∷ 5 ∷ 0 ∷ 0 ∷ 1 ∷ 0 ∷ []) ∷ (0 ∷ 5 ∷ 0 ∷ 0 ∷ 1 ∷ 0 ∷ [])
    ∷ (0 ∷ 5 ∷ 0 ∷ 0 ∷ 1 ∷ 0 ∷ []) ∷ (0 ∷ 5 ∷ 0 ∷ 0 ∷ 1 ∷ 0 ∷ []) ∷ (0 ∷ 5 ∷ 0 ∷ 0 ∷ 1 ∷ 0 ∷ []) ∷ (0 ∷ 5 ∷ 0 ∷ 0 ∷ 1 ∷ 0 ∷ [])
    ∷ (0 ∷ 5 ∷ 0 ∷ 0 ∷ 1 ∷ 0 ∷ []) ∷ (18 ∷ []) ∷ [])
    (0 ∷ 5 ∷ 0 ∷ 0 ∷ 1 ∷ 0 ∷ []) (1 ∷ 0 ∷ 0 ∷ 0 ∷ 0 ∷ [])
    -- T6: the newest take is of lock 0
    ∷ run crane (Release 0 ∷ Acquire 0 ∷ Acquire 1 ∷ Acquire 0 ∷ Unlock 1 ∷ [])
    ((0 ∷ 1 ∷ 0 ∷ 0 ∷ 1 ∷ 0 ∷ []) ∷ (0 ∷ 5 ∷ 0 ∷ 0 ∷ 1 ∷ 0 ∷ []) ∷ (0 ∷ 5 ∷ 0 ∷ 0 ∷ 1 ∷ 0 ∷ []) ∷ (0 ∷ 5 ∷ 0 ∷ 0 ∷ 1 ∷ 0 ∷ []) ∷ (19 ∷ []) ∷ [])
    (0 ∷ 5 ∷ 0 ∷ 0 ∷ 1 ∷ 0 ∷ []) (1 ∷ 0 ∷ 0 ∷ 0 ∷ 0 ∷ [])
    -- T7: a take again after a nest is over; task 1 waits for all that the section may have
    ∷ run crane (Release 0 ∷ Acquire 1 ∷ Acquire 0 ∷ Unlock 0 ∷ Acquire 1 ∷ Release 1 ∷ Work 10 ∷ Unlock 1 ∷ Unlock 1 ∷ Finish ∷ [])
    ((0 ∷ 1 ∷ 0 ∷ 0 ∷ 1 ∷ 0 ∷ []) ∷ (0 ∷ 3 ∷ 0 ∷ 0 ∷ 1 ∷ 0 ∷ []) ∷ (0 ∷ 5 ∷ 0 ∷ 0 ∷ 1 ∷ 0 ∷ []) ∷ (0 ∷ 3 ∷ 0 ∷ 0 ∷ 1 ∷ 0 ∷ [])
    ∷ (0 ∷ 3 ∷ 0 ∷ 0 ∷ 1 ∷ 0 ∷ []) ∷ (0 ∷ 3 ∷ 3 ∷ 0 ∷ 3 ∷ 0 ∷ []) ∷ (0 ∷ 3 ∷ 3 ∷ 0 ∷ 3 ∷ 0 ∷ []) ∷ (0 ∷ 3 ∷ 3 ∷ 0 ∷ 3 ∷ 0 ∷ [])
    ∷ (1 ∷ 3 ∷ 1 ∷ 1 ∷ 3 ∷ 1 ∷ []) ∷ (0 ∷ 1 ∷ 0 ∷ 0 ∷ 1 ∷ 0 ∷ []) ∷ [])
    (0 ∷ 1 ∷ 0 ∷ 1 ∷ 1 ∷ 1 ∷ []) (4 ∷ 0 ∷ 10 ∷ 0 ∷ 0 ∷ [])
    -- RULES 18.8: two users for each lock; lock 0 without any, with task 2 alone, whose base is the ceiling, and with task 0 alone; the same of lock 1, with
    -- task 1 alone and with task 0 alone
    ∷ with_plan task_numbers use_numbers 0 0 0
    ∷ with_plan task_numbers (0x0100 ∷ 0x0101 ∷ []) 7 0 10
    ∷ with_plan task_numbers (0x0100 ∷ 0x0101 ∷ 0x0002 ∷ []) 7 0 10
    ∷ with_plan task_numbers (0x0000 ∷ 0x0100 ∷ 0x0101 ∷ []) 7 0 10
    ∷ with_plan task_numbers (0x0000 ∷ 0x0002 ∷ []) 7 1 10
    ∷ with_plan task_numbers (0x0000 ∷ 0x0101 ∷ 0x0002 ∷ []) 7 1 10
    ∷ with_plan task_numbers (0x0000 ∷ 0x0100 ∷ 0x0002 ∷ []) 7 1 10
    -- RULES 18.10: the least maxima that pass, and the greatest; task 3's one below its base. Then lock 0, of ceiling 5, above the maximum 4 of a user: of task
    -- 0, by the first use; of task 1, which may take it too, by a middle one; and of task 3, by the last one, with other bases
    ∷ with_plan (0x0501 ∷ 0x0303 ∷ 0x0505 ∷ 0x0707 ∷ []) use_numbers 0 0 0
    ∷ with_plan (0xff01 ∷ 0xff03 ∷ 0xff05 ∷ 0xff07 ∷ []) use_numbers 0 0 0
    ∷ with_plan (0x0501 ∷ 0x0503 ∷ 0x0505 ∷ 0x0607 ∷ []) use_numbers 4 3 10
    ∷ with_plan (0x0401 ∷ 0x0503 ∷ 0x0505 ∷ 0x0707 ∷ []) use_numbers 24 0 10
    ∷ with_plan (0x0501 ∷ 0x0403 ∷ 0x0505 ∷ 0x0707 ∷ []) (0x0000 ∷ 0x0100 ∷ 0x0001 ∷ 0x0101 ∷ 0x0002 ∷ []) 24 2 10
    ∷ with_plan (0x0503 ∷ 0x0301 ∷ 0x0505 ∷ 0x0403 ∷ []) (0x0000 ∷ 0x0100 ∷ 0x0101 ∷ 0x0002 ∷ 0x0003 ∷ []) 24 4 10
    -- 4 comes before it, and so does 7: lock 1 has one user; and it comes before 8: an event of no kind
    ∷ with_plan (0x0401 ∷ 0x0203 ∷ 0x0505 ∷ 0x0707 ∷ []) use_numbers 4 1 10
    ∷ with_plan (0x0401 ∷ 0x0503 ∷ 0x0505 ∷ 0x0707 ∷ []) (0x0000 ∷ 0x0101 ∷ 0x0002 ∷ []) 7 1 10
    ∷ with_book (0x0401 ∷ 0x0503 ∷ 0x0505 ∷ 0x0707 ∷ []) use_numbers (0x0007 ∷ []) 24 0
    -- RULES 9.11: a tick cuts 9 to 5, and leaves 5; a newcomer of base 5 does not switch, and one of base 7 does, so that 5 is kept; a finish switches as ever;
    -- an unlock that calls with 8 keeps 5, so that task 0 runs on with it
    ∷ words 9 3 1 Tick (0 ∷ 5 ∷ 3 ∷ 0 ∷ 0 ∷ 3 ∷ 0 ∷ 0 ∷ []) 5
    ∷ words 5 3 1 Tick (0 ∷ 5 ∷ 3 ∷ 0 ∷ 0 ∷ 3 ∷ 0 ∷ 0 ∷ []) 5
    ∷ words 9 3 1 (Release 2) (0 ∷ 5 ∷ 5 ∷ 0 ∷ 0 ∷ 3 ∷ 5 ∷ 0 ∷ []) 5
    ∷ words 9 3 1 (Release 3) (3 ∷ 7 ∷ 5 ∷ 0 ∷ 5 ∷ 3 ∷ 0 ∷ 0 ∷ []) 7
    ∷ words 9 3 1 Finish (1 ∷ 3 ∷ 0 ∷ 0 ∷ 0 ∷ 0 ∷ 0 ∷ 0 ∷ []) 3
    ∷ words 5 9 8 (Unlock 0) (0 ∷ 5 ∷ 3 ∷ 1 ∷ 0 ∷ 3 ∷ 0 ∷ 0 ∷ []) 5
    -- an unlock that does not call is no entry and cuts nothing, nor do an acquire and work
    ∷ words 5 8 8 (Unlock 0) (0 ∷ 8 ∷ 8 ∷ 0 ∷ 0 ∷ 3 ∷ 0 ∷ 0 ∷ []) 8
    ∷ words 9 3 1 (Acquire 1) (0 ∷ 9 ∷ 3 ∷ 0 ∷ 0 ∷ 3 ∷ 0 ∷ 0 ∷ []) 3
    ∷ words 9 3 1 (Work 1) (0 ∷ 9 ∷ 3 ∷ 0 ∷ 0 ∷ 3 ∷ 0 ∷ 0 ∷ []) 3
    ∷ []

table : T (all cases)
unfolding task_numbers lock_numbers use_numbers event_numbers crane paper book end_of row_by row_of rows_of same sames agree ran_right given book_right words_with one_take
    words_right right all cases
    all_true every any count greatest first_from from renewed zeros number_of first_true found first_fault answer_number verdict_number verdict_place
    event_fault event_of number_fault has_bit with_bit
    most count_fault task_fault lock_fault declares users users_base users_fault ceiling_fault maximum_fault above_fault task_fault_at lock_fault_at count_fault_of
    use_fault use_above masks_of plan_of
    record_checks load_checks loaded_as load_of size_of body_at layout_fault contents_checks event_checks check_of
    word_bytes long_bytes book_of whole_checks write_checks wrote_as write_of
    has priority saves holds priority_of rank_of earlier earliest elected elsewhere not_newest past_limit tests_of release_order acquire_order unlock_order work_order
    finish_order refusal_of differs eager_calls stays_open left_of charged delayed figures_after running_of settle eager_test eager_step
    second_word calls_for cut_to entering runs_on switched stays after_release after_acquire restored leaves after_unlock words_after lazy_call kept_of saved_of owner_of
    task_obeys lock_obeys spare_obeys obeys row_test own_test number_new number_test task_test lock_test runs_test second_test head_test spare_test sound_test
    after_of answered act_of step_of with_row onward run_from replay_as replay_of eager_at lazy_at lower_at lower_user may_block limit_if longest_limit
table = tt
