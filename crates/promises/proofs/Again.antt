-- RULES 19.10: what `show` writes for an accepted book is read again as that book, and is no longer than a text may be. Assumes nothing.
use Rattle.std.specs.Prelude.{Ok, if◌then◌else◌}
use Rattle.rules.specs.Numbers.Verdict.{Verdict}
use mathlib.Core.Path.{◌≡◌, refl, ◌∙◌, ap}
use mathlib.Core.Logic.{◌≢◌}
use mathlib.Core.Bool.{◌&&◌}
use mathlib.Core.List.{List, [], ◌∷◌, ◌++◌}
use Prim.Native.Nat.{ℕ, suc, ◌+◌, ◌*◌, ◌≤◌, ◌<◌}
use native.Mathlib.Omega.{arith}
use lib.Dec.{eqb, ltb}
use lib.ListN.{length, replicate, length-append, length-replicate}
use borrow.Author.Tests.{le-ltb, lt-ltb, eqb-true, eqb-false, ltb-true, ltb-false}
use Rattle.rules.specs.Numbers.Answer.{verdict_number}
use Rattle.rules.specs.Numbers.Capacity.{nobody, max_tasks, max_locks, max_uses, max_events}
use Rattle.rules.specs.Numbers.Place.{at}
use Rattle.rules.specs.Numbers.Refusal.{number_of, check_for}
use Rattle.rules.specs.Books.Plan.{most, count_fault}
use Rattle.rules.specs.Books.Book.{count_at, body_at, tasks_of, locks_of, uses_of, event_numbers_of, events_of, plan_in, contents_checks, check_of}
use Rattle.rules.specs.Books.Bytes.{Bytes}
use Rattle.rules.specs.Books.Write.{write_of}
use Rattle.rules.specs.Demands.Written.{WrittenBack}
use Rattle.rules.specs.Demands.Replayed.{RanUpTo}
use Rattle.rules.specs.declared.protocol.Protocol.TheVariants.{Second}
use Rattle.rules.specs.declared.refusal.Refusal.TheVariants.{WrongCount}
use Rattle.rules.proofs.Numbers.Choice.{if_true, if_false, by_test, or_false}
use Rattle.rules.proofs.Numbers.Checks.{clean_for, none_refused_at}
use Rattle.rules.proofs.Books.Passes.{passed_contents, passed_obeys}
use Rattle.rules.proofs.Demands.Replayed.{replayed}
use Rattle.rules.proofs.Demands.Sizes.{SmallRow, row_small}
use Rattle.rules.proofs.Demands.Written.{writing}
use Rattle.page.specs.Ascii.{ascii}
use Rattle.page.specs.Says.{filled}
use Rattle.texts.specs.Lines.{lines_of, read_lines}
use Rattle.book.specs.Look.{task_in, lock_in, use_in, event_in}
use Rattle.wording.specs.Records.{task_line, lock_line, use_line, event_line}
use Rattle.office.specs.Again.{ReadAgain, ComposedAgain, Again}
use Rattle.office.specs.Compose.{text_space, written, composed_as, composed_records, composed_by, compose_of}
use Rattle.office.specs.Ran.{row_space, ran_of}
use Rattle.office.specs.Show.{each, task_lines, lock_lines, use_lines, comment_of, event_lines, task_part, lock_part, use_part, event_part, first_parts, last_parts, parts_of, shown_as, shown_of}
use Rattle.promises.proofs.ReadAgain.{byte_word, byte_long, count_is, task_is, use_is, event_is, second_none, event_right}
use Rattle.promises.proofs.ReadAgain.{read_right, read_tasks, read_locks, read_uses, read_events}
use Rattle.promises.proofs.ShownLines.{event_figures}
use Rattle.promises.proofs.ShownLength.{space_for, filled_long, one_few, task_long, lock_long, use_long, event_long, comment_long, any_comment_long, each_long}

-- the line that counts a part's records
head_long : (text : List ℕ) (n : ℕ) → n < 100000 → space_for 5 text ≤ 30 → length (filled text (n ∷ [])) ≤ 30
head_long text n l h = omega (arith, filled_long 5 text (n ∷ []) (one_few n l), h)

module _ (b : List ℕ) (B : Bytes b) (passed : check_of b row_space ≡ Ok tt) where
  -- no more records than there may be
  counts : (e : ℕ) → e < 4 → count_at b e ≤ most e
  unfolding contents_checks check_for number_of count_fault
  counts e l = ltb-false (most e) (count_at b e)
      (or_false (eqb e 0 && eqb (count_at b e) 0) (ltb (most e) (count_at b e)) (clean_for (contents_checks b) (passed_contents b row_space passed) WrongCount e l)).1

  few : (count_at b 0 ≤ max_tasks) × (count_at b 1 ≤ max_locks) × (count_at b 2 ≤ max_uses) × (count_at b 3 ≤ max_events)
  unfolding most
  few = (counts 0 (omega arith), counts 1 (omega arith), counts 2 (omega arith), counts 3 (omega arith))

  tasks_long : length (task_part b (count_at b 0)) ≤ 30 + count_at b 0 * 25
  unfolding task_part task_lines ascii space_for
  tasks_long = omega (
    arith,
    length-append (filled (ascii "# @ tasks: base, maximum\n") (count_at b 0 ∷ [])) (each (λ k. task_line k (task_in b k)) (count_at b 0)),
    head_long (ascii "# @ tasks: base, maximum\n") (count_at b 0) (omega (arith, few.0)) (omega arith),
    each_long (λ k. task_line k (task_in b k)) (λ k. k * 25) (count_at b 0)
        (λ k l. omega (arith, few.0, task_long k (task_in b k) (omega (arith, few.0)) (omega (arith, task_is b passed k l, byte_word b B (body_at b 0 + k * 2))))),
  )

  locks_long : length (lock_part b (count_at b 1)) ≤ 30 + count_at b 1 * 25
  unfolding lock_part lock_lines ascii space_for
  locks_long = omega (
    arith,
    length-append (filled (ascii "# @ locks: ceiling, limit\n") (count_at b 1 ∷ [])) (each (λ k. lock_line k (lock_in b k)) (count_at b 1)),
    head_long (ascii "# @ locks: ceiling, limit\n") (count_at b 1) (omega (arith, few.1)) (omega arith),
    each_long (λ k. lock_line k (lock_in b k)) (λ k. k * 25) (count_at b 1)
        (λ k l. omega (arith, few.1, lock_long k (lock_in b k) (omega (arith, few.1)) (second_none b passed B k l))),
  )

  uses_long : length (use_part b (count_at b 2)) ≤ 30 + count_at b 2 * 24
  unfolding use_part use_lines ascii space_for
  uses_long = omega (
    arith,
    length-append (filled (ascii "# @ uses: task, lock\n") (count_at b 2 ∷ [])) (each (λ k. use_line k (use_in b k)) (count_at b 2)),
    head_long (ascii "# @ uses: task, lock\n") (count_at b 2) (omega (arith, few.2)) (omega arith),
    each_long (λ k. use_line k (use_in b k)) (λ k. k * 24) (count_at b 2)
        (λ k l. omega (arith, few.2, use_long k (use_in b k) (omega (arith, few.2)) (omega (arith, use_is b passed k l, byte_word b B (body_at b 2 + k * 2))))),
  )

  -- the events of a run that stopped after a of them, whose rows are small
  module _ (v : Verdict) (a : ℕ) (rs : List ℕ) (small : (k : ℕ) → k < a → (at rs (k * 4) < 100000) × (at rs (k * 4 + 1) < 100000)) where
    -- one of them may have a longer comment
    extra : ℕ → ℕ
    extra k = if ltb a k then 91 else 0

    most_extra : (k : ℕ) → extra k ≤ 91
    unfolding extra
    most_extra k = by_test (ltb a k) (λ f. rw (if_true {A = ℕ} (ltb a k) 91 0 f) (omega arith)) (λ f. rw (if_false {A = ℕ} (ltb a k) 91 0 f) (omega arith))

    line_long : (k : ℕ) → k < count_at b 3 → (m : ℕ) → length (comment_of v a rs k) ≤ m → length (event_line (event_in b k) (comment_of v a rs k)) ≤ 13 + m
    line_long k l m h =
        let byte : event_in b k < 4294967296 = omega (arith, event_is b passed k l, byte_long b B (body_at b 3 + k * 4)) in
        let (i, w) = event_figures (event_in b k) byte (event_right b passed B k l) in
        event_long (event_in b k) (comment_of v a rs k) m (event_right b passed B k l) (omega (arith, i)) (omega (arith, w)) h

    grows : (k : ℕ) → k < count_at b 3 → k * 54 + extra k + length (event_line (event_in b k) (comment_of v a rs k)) ≤ suc k * 54 + extra (suc k)
    unfolding extra
    grows k l = by_test (eqb k a)
        (λ e. let s : k ≡ a = eqb-true k a e in
        rw (if_false {A = ℕ} (ltb a k) 91 0 (le-ltb a k (omega arith)), if_true {A = ℕ} (ltb a (suc k)) 91 0 (lt-ltb a (suc k) (omega arith)))
        (omega (arith, line_long k l 132 (any_comment_long v a rs k (omega (arith, few.3)) (small k)))))
        (λ e. let d : k ≢ a = eqb-false k a e in
        let h : length (event_line (event_in b k) (comment_of v a rs k)) ≤ 54 = line_long k l 41 (comment_long v a rs k (omega (arith, few.3)) (small k) d) in
        by_test (ltb a k)
        (λ f. rw (if_true {A = ℕ} (ltb a k) 91 0 f, if_true {A = ℕ} (ltb a (suc k)) 91 0 (lt-ltb a (suc k) (omega (arith, ltb-true a k f)))) (omega (arith, h)))
        (λ f. rw (if_false {A = ℕ} (ltb a k) 91 0 f) (omega (arith, h))))

    events_long : length (event_part b v a rs (count_at b 3)) ≤ 30 + count_at b 3 * 54 + 91
    unfolding event_part event_lines ascii space_for
    events_long = omega (
      arith,
      length-append (filled (ascii "# @ events\n") (count_at b 3 ∷ [])) (each (λ k. event_line (event_in b k) (comment_of v a rs k)) (count_at b 3)),
      head_long (ascii "# @ events\n") (count_at b 3) (omega (arith, few.3)) (omega arith),
      each_long (λ k. event_line (event_in b k) (comment_of v a rs k)) (λ k. k * 54 + extra k) (count_at b 3) grows,
      most_extra (count_at b 3),
    )

    parts_long : length (parts_of b v a rs) ≤ text_space
    unfolding parts_of first_parts last_parts
    parts_long = rw (count_is b passed 0 (omega arith), count_is b passed 1 (omega arith), count_is b passed 2 (omega arith), count_is b passed 3 (omega arith)) (omega (
      arith,
      length-append (task_part b (count_at b 0) ++ lock_part b (count_at b 1)) (use_part b (count_at b 2) ++ event_part b v a rs (count_at b 3)),
      length-append (task_part b (count_at b 0)) (lock_part b (count_at b 1)),
      length-append (use_part b (count_at b 2)) (event_part b v a rs (count_at b 3)),
      tasks_long,
      locks_long,
      uses_long,
      events_long,
      few.0,
      few.1,
      few.2,
      few.3,
    ))

  -- the rows of its run are small
  ran : RanUpTo Second (plan_in b) (events_of b) (replicate row_space 0) (ran_of Second b) (ran_of Second b).state.head.accepted
  unfolding verdict_number
  ran = (replayed Second b (replicate row_space 0)).ran (rw (length-replicate {A = ℕ} row_space 0) (ap verdict_number passed))

  rows_small : (k : ℕ) → k < (ran_of Second b).state.head.accepted → (at (ran_of Second b).rows (k * 4) < 100000) × (at (ran_of Second b).rows (k * 4 + 1) < 100000)
  rows_small k l =
      let S : SmallRow (at (ran_of Second b).rows (k * 4)) (at (ran_of Second b).rows (k * 4 + 1)) (at (ran_of Second b).rows (k * 4 + 2)) (at (ran_of Second b).rows (k * 4 + 3))
      = row_small (passed_obeys b row_space passed) (events_of b) k _ _ _ _ (ran.written k l) in (
        by_test (eqb (at (ran_of Second b).rows (k * 4)) nobody)
            (λ e. omega (arith, eqb-true (at (ran_of Second b).rows (k * 4)) nobody e))
            (λ e. omega (arith, S.runs (eqb-false (at (ran_of Second b).rows (k * 4)) nobody e))),
        omega (arith, S.own),
      )

  fits : length (shown_of b) ≤ text_space
  unfolding shown_of shown_as
  fits = rw passed (parts_long (ran_of Second b).verdict (ran_of Second b).state.head.accepted (ran_of Second b).rows rows_small)

  pub reads_again : ReadAgain b
  reads_again = record {
    right = read_right b passed B;
    tasks = read_tasks b passed B;
    locks = read_locks b passed B;
    uses = read_uses b passed B;
    events = read_events b passed B;
    fits = fits;
  }

  -- ---- so it is composed to the same bytes

  module _ (buffer : List ℕ) (room : length b ≤ length buffer) where
    back : WrittenBack b (write_of (tasks_of b) (locks_of b) (uses_of b) (event_numbers_of b) buffer)
    unfolding verdict_number
    back = writing.again b row_space buffer B (ap verdict_number passed) room

    same : written (lines_of (shown_of b)) buffer ≡ write_of (tasks_of b) (locks_of b) (uses_of b) (event_numbers_of b) buffer
    same = rw (read_tasks b passed B, read_locks b passed B, read_uses b passed B, read_events b passed B)

    composed : compose_of (shown_of b) buffer ≡ composed_as (Ok tt) (read_lines (shown_of b)) (write_of (tasks_of b) (locks_of b) (uses_of b) (event_numbers_of b) buffer)
    unfolding compose_of composed_by composed_records
    composed = if_false (ltb text_space (length (shown_of b))) _ _ (le-ltb text_space (length (shown_of b)) fits)
        ∙ ap (λ f. composed_by f (shown_of b) buffer) (read_right b passed B)
        ∙ ap (λ w. composed_as w.verdict (read_lines (shown_of b)) w) same
        ∙ ap (λ v. composed_as v (read_lines (shown_of b)) (write_of (tasks_of b) (locks_of b) (uses_of b) (event_numbers_of b) buffer)) (none_refused_at _ back.accepted)

    pub composes_again : ComposedAgain b (compose_of (shown_of b) buffer)
    unfolding composed_as
    composes_again = rw composed (record { size = back.size; book = back.book; said = refl })

pub again : Again
again = record {
  reads = λ b B z. reads_again b B (none_refused_at (check_of b row_space) z);
  composes = λ b buffer B z room. composes_again b B (none_refused_at (check_of b row_space) z) buffer room;
}
