-- RULES 19.10: reading what `show` writes gives the same records, for every accepted book, and composing it the same bytes. Assumes nothing.
use Rattle.std.specs.Prelude.{Ok, Err, None}
use Rattle.rules.specs.Numbers.Verdict.{Verdict}
use mathlib.Core.Path.{◌≡◌, refl, sym, ◌∙◌, ap}
use mathlib.Core.Bool.{Bool, true, false, not, ◌&&◌, ◌||◌}
use mathlib.Core.List.{List, [], ◌∷◌, ◌++◌, map, append_assoc, append-nil}
use Prim.Native.Nat.{ℕ, zero, suc, ◌+◌, ◌*◌, ◌≤◌, ◌<◌}
use native.Mathlib.Omega.{arith}
use lib.Dec.{eqb, leb, ltb}
use lib.ListN.{length}
use borrow.Author.Tests.{le-leb, le-ltb, eqb-true, ltb-false, not-true, not-false, ne_eqb, eq-eqb}
use Rattle.rules.specs.Numbers.Answer.{verdict_number}
use Rattle.rules.specs.Numbers.Place.{at, from, tabulate}
use Rattle.rules.specs.Numbers.Refusal.{number_of, first_fault, check_for}
use Rattle.rules.specs.Books.Event.{number_fault}
use Rattle.rules.specs.Books.Plan.{lock_fault}
use Rattle.rules.specs.Books.Load.{lock_ceiling, lock_second, lock_limit, lock_fault_at, record_checks, load_checks}
use Rattle.rules.specs.Books.Book.{contents, word, long, count_at, size_of, body_at, layout_fault, tasks_of, locks_of, uses_of, event_numbers_of, contents_checks, check_of}
use Rattle.rules.specs.Books.Bytes.{Bytes}
use Rattle.rules.specs.Books.Write.{whole_checks, write_checks, wrote_as, write_of}
use Rattle.rules.specs.Demands.Written.{WrittenBack}
use Rattle.rules.specs.declared.protocol.Protocol.TheVariants.{Second}
use Rattle.rules.specs.declared.refusal.Refusal.TheVariants.{ShortBook, WrongLayout, WrongLock, WrongEvent}
use Rattle.rules.proofs.Numbers.Choice.{if_true, if_false, or_false, and_true, true_and, untrue}
use Rattle.rules.proofs.Numbers.Checks.{clean_for, none_refused_at}
use Rattle.rules.proofs.Numbers.Place.{get_d_tabulate, length_from, from_same}
use Rattle.rules.proofs.Books.Passes.{passed_contents}
use Rattle.rules.proofs.Demands.Written.{writing}
use Rattle.page.specs.Ascii.{ascii}
use Rattle.page.specs.Says.{filled}
use Rattle.texts.specs.Cut.{hash}
use Rattle.texts.specs.Line.{line_of, items_of}
use Rattle.texts.specs.Lines.{lines_of, read_lines, of_part, records_of, is_wrong, first_wrong}
use Rattle.texts.specs.declared.line.Line.{Line}
use Rattle.book.specs.Look.{entry_in, body_in, word_in, long_in, task_in, lock_in, use_in, event_in}
use Rattle.book.specs.declared.look.Entry.{Entry}
use Rattle.wording.specs.Records.{task_line, lock_line, use_line, event_line}
use Rattle.office.specs.Ran.{row_space, ran_of}
use Rattle.office.specs.Show.{each, task_lines, lock_lines, use_lines, comment_of, event_lines, task_part, lock_part, use_part, event_part, first_parts, last_parts, parts_of, shown_as, shown_of}
use Rattle.promises.proofs.LinesRead.{Reads, reads_none, reads_two}
use Rattle.promises.proofs.ShownLines.{Ends, last_line, nothing, filled_byte, filled_ends, reads_comment, reads_task, reads_lock, reads_use, reads_event, comment_so}

-- ---- lines one after the other

unfoldable rows : ℕ → (ℕ → ℕ) → ℕ → List Line
rows part v zero = []
rows part v (suc k) = rows part v k ++ Line.Record part (v k) ∷ []

each_reads : (f : ℕ → List ℕ) (part : ℕ) (v : ℕ → ℕ) (n : ℕ) → ((k : ℕ) → k < n → Reads (f k) (Line.Record part (v k) ∷ [])) → Reads (each f n) (rows part v n)
unfolding each rows
each_reads f part v zero h = reads_none
each_reads f part v (suc k) h =
    reads_two (each f k) (f k) (rows part v k) (Line.Record part (v k) ∷ []) (each_reads f part v k (λ j l. h j (omega arith))) (h k (omega arith))

-- a part: the line that counts its records, and these
part_reads : (head : List ℕ) (f : ℕ → List ℕ) (part : ℕ) (v : ℕ → ℕ) (n : ℕ) → Ends head → ((k : ℕ) → k < n → Reads (f k) (Line.Record part (v k) ∷ []))
    → Reads ((hash ∷ head) ++ each f n) (Line.Blank ∷ rows part v n)
part_reads head f part v n E h = reads_two (hash ∷ head) (each f n) (Line.Blank ∷ []) (rows part v n) (reads_comment head E) (each_reads f part v n h)

-- ---- what is collected of them

-- lines without a job
unfoldable plain : Line → Bool
plain Line.Blank = true
plain (Line.Record p w) = true
plain (Line.Job w n) = false
plain Line.Unknown = true
plain (Line.Wrong kind word m) = true
plain (Line.Refused why place) = true

unfoldable plains : List Line → Bool
plains [] = true
plains (l ∷ ls) = plain l && plains ls

-- their records need no items
unfoldable collect : ℕ → List Line → List ℕ
collect part [] = []
collect part (l ∷ ls) = of_part part l [] ++ collect part ls

plain_part : (part : ℕ) (l : Line) (items : List ℕ) → plain l ≡ true → of_part part l items ≡ of_part part l []
unfolding of_part plain
plain_part part Line.Blank items h = refl
plain_part part (Line.Record p w) items h = refl
plain_part part (Line.Job w n) items h = untrue (sym h)
plain_part part Line.Unknown items h = refl
plain_part part (Line.Wrong kind word m) items h = refl
plain_part part (Line.Refused why place) items h = refl

plain_records : (part : ℕ) (lines : List (List ℕ)) → plains (map line_of lines) ≡ true → records_of part lines ≡ collect part (map line_of lines)
unfolding records_of collect plains
plain_records part [] h = refl
plain_records part (l ∷ ls) h =
    let (a, b) = and_true (plain (line_of l)) (plains (map line_of ls)) h in
    ap (λ x. x ++ records_of part ls) (plain_part part (line_of l) (items_of l) a) ∙ ap (λ x. of_part part (line_of l) [] ++ x) (plain_records part ls b)

plains_two : (ls ms : List Line) → plains ls ≡ true → plains ms ≡ true → plains (ls ++ ms) ≡ true
unfolding plains
plains_two [] ms h g = g
plains_two (l ∷ ls) ms h g = let (a, b) = and_true (plain l) (plains ls) h in true_and (plain l) (plains (ls ++ ms)) a (plains_two ls ms b g)

plains_rows : (part : ℕ) (v : ℕ → ℕ) (n : ℕ) → plains (rows part v n) ≡ true
unfolding plains plain rows
plains_rows part v zero = refl
plains_rows part v (suc k) = plains_two (rows part v k) (Line.Record part (v k) ∷ []) (plains_rows part v k) refl

records_two : (part : ℕ) (ls ms : List Line) → collect part (ls ++ ms) ≡ collect part ls ++ collect part ms
unfolding collect
records_two part [] ms = refl
records_two part (l ∷ ls) ms = ap (λ x. of_part part l [] ++ x) (records_two part ls ms) ∙ sym (append_assoc (of_part part l []) (collect part ls) (collect part ms))

-- the values, one after the other
unfoldable values : (ℕ → ℕ) → ℕ → List ℕ
values v zero = []
values v (suc k) = values v k ++ v k ∷ []

own_part : (part : ℕ) (v : ℕ → ℕ) (n : ℕ) → collect part (rows part v n) ≡ values v n
unfolding collect rows values of_part
own_part part v zero = refl
own_part part v (suc k) =
    records_two part (rows part v k) (Line.Record part (v k) ∷ [])
    ∙ ap (λ x. collect part (rows part v k) ++ x) (append-nil (of_part part (Line.Record part (v k)) []) ∙ if_true (eqb part part) (v k ∷ []) [] (eq-eqb part part refl))
    ∙ ap (λ x. x ++ v k ∷ []) (own_part part v k)

other_part : (part q : ℕ) (v : ℕ → ℕ) (n : ℕ) → (q ≡ part → ⊥) → collect part (rows q v n) ≡ []
unfolding collect rows of_part
other_part part q v zero d = refl
other_part part q v (suc k) d =
    records_two part (rows q v k) (Line.Record q (v k) ∷ [])
    ∙ ap (λ x. collect part (rows q v k) ++ x) (append-nil (of_part part (Line.Record q (v k)) []) ∙ if_false (eqb q part) (v k ∷ []) [] (ne_eqb q part d))
    ∙ append-nil (collect part (rows q v k)) ∙ other_part part q v k d

-- values from place i on, and those of a table
from_last : (v : ℕ → ℕ) (i n : ℕ) → from v i (suc n) ≡ from v i n ++ v (i + n) ∷ []
unfolding from
from_last v i zero = ap (λ k. v k ∷ []) (omega arith)
from_last v i (suc n) = ap (λ x. v i ∷ x) (from_last v (suc i) n ∙ ap (λ k. from v (suc i) n ++ v k ∷ []) (omega arith))

values_table : (v : ℕ → ℕ) (n : ℕ) → values v n ≡ tabulate n v
unfolding values from
values_table v zero = refl
values_table v (suc n) = ap (λ x. x ++ v n ∷ []) (values_table v n) ∙ sym (from_last v 0 n ∙ ap (λ k. from v 0 n ++ v k ∷ []) zero_more)
  where
    zero_more : 0 + n ≡ n
    zero_more = omega arith

-- no line of them has a mistake
unfoldable rights : List Line → Bool
rights [] = true
rights (l ∷ ls) = not (is_wrong l) && rights ls

rights_none : (ls : List Line) (n : ℕ) → rights ls ≡ true → first_wrong n ls ≡ None
unfolding rights first_wrong
rights_none [] n h = refl
rights_none (l ∷ ls) n h =
    let (a, b) = and_true (not (is_wrong l)) (rights ls) h in
    if_false (is_wrong l) _ _ (not-true (is_wrong l) a) ∙ rights_none ls (suc n) b

rights_two : (ls ms : List Line) → rights ls ≡ true → rights ms ≡ true → rights (ls ++ ms) ≡ true
unfolding rights
rights_two [] ms h g = g
rights_two (l ∷ ls) ms h g =
    let (a, b) = and_true (not (is_wrong l)) (rights ls) h in true_and (not (is_wrong l)) (rights (ls ++ ms)) a (rights_two ls ms b g)

rights_rows : (part : ℕ) (v : ℕ → ℕ) (n : ℕ) → rights (rows part v n) ≡ true
unfolding rights rows is_wrong
rights_rows part v zero = refl
rights_rows part v (suc k) = rights_two (rows part v k) (Line.Record part (v k) ∷ []) (rights_rows part v k) refl

-- ---- the lines of four parts

module _ (t l u e : ℕ → ℕ) (n m k j : ℕ) where
  abbrev shown : List Line
  shown = ((Line.Blank ∷ rows 0 t n) ++ (Line.Blank ∷ rows 1 l m)) ++ ((Line.Blank ∷ rows 2 u k) ++ (Line.Blank ∷ rows 3 e j))

  shown_right : rights shown ≡ true
  unfolding rights is_wrong
  shown_right = rights_two ((Line.Blank ∷ rows 0 t n) ++ (Line.Blank ∷ rows 1 l m)) ((Line.Blank ∷ rows 2 u k) ++ (Line.Blank ∷ rows 3 e j))
      (rights_two (Line.Blank ∷ rows 0 t n) (Line.Blank ∷ rows 1 l m) (rights_rows 0 t n) (rights_rows 1 l m))
      (rights_two (Line.Blank ∷ rows 2 u k) (Line.Blank ∷ rows 3 e j) (rights_rows 2 u k) (rights_rows 3 e j))

  shown_plain : plains shown ≡ true
  unfolding plains plain
  shown_plain = plains_two ((Line.Blank ∷ rows 0 t n) ++ (Line.Blank ∷ rows 1 l m)) ((Line.Blank ∷ rows 2 u k) ++ (Line.Blank ∷ rows 3 e j))
      (plains_two (Line.Blank ∷ rows 0 t n) (Line.Blank ∷ rows 1 l m) (plains_rows 0 t n) (plains_rows 1 l m))
      (plains_two (Line.Blank ∷ rows 2 u k) (Line.Blank ∷ rows 3 e j) (plains_rows 2 u k) (plains_rows 3 e j))

  collected : (part : ℕ) → collect part shown
      ≡ (collect part (rows 0 t n) ++ collect part (rows 1 l m)) ++ (collect part (rows 2 u k) ++ collect part (rows 3 e j))
  unfolding collect of_part
  collected part =
      records_two part ((Line.Blank ∷ rows 0 t n) ++ (Line.Blank ∷ rows 1 l m)) ((Line.Blank ∷ rows 2 u k) ++ (Line.Blank ∷ rows 3 e j))
      ∙ ap (λ x. x ++ collect part ((Line.Blank ∷ rows 2 u k) ++ (Line.Blank ∷ rows 3 e j))) (records_two part (Line.Blank ∷ rows 0 t n) (Line.Blank ∷ rows 1 l m))
      ∙ ap (λ x. (collect part (rows 0 t n) ++ collect part (rows 1 l m)) ++ x) (records_two part (Line.Blank ∷ rows 2 u k) (Line.Blank ∷ rows 3 e j))

  tasks_back : collect 0 shown ≡ tabulate n t
  tasks_back = collected 0 ∙ rw (own_part 0 t n, other_part 0 1 l m (λ d. omega (arith, d)), other_part 0 2 u k (λ d. omega (arith, d)), other_part 0 3 e j (λ d. omega (arith, d)))
      (append-nil (values t n ++ []) ∙ append-nil (values t n) ∙ values_table t n)

  locks_back : collect 1 shown ≡ tabulate m l
  locks_back = collected 1 ∙ rw (own_part 1 l m, other_part 1 0 t n (λ d. omega (arith, d)), other_part 1 2 u k (λ d. omega (arith, d)), other_part 1 3 e j (λ d. omega (arith, d)))
      (append-nil (values l m) ∙ values_table l m)

  uses_back : collect 2 shown ≡ tabulate k u
  uses_back = collected 2 ∙ rw (own_part 2 u k, other_part 2 0 t n (λ d. omega (arith, d)), other_part 2 1 l m (λ d. omega (arith, d)), other_part 2 3 e j (λ d. omega (arith, d)))
      (append-nil (values u k) ∙ values_table u k)

  events_back_lem : collect 3 shown ≡ tabulate j e
  events_back_lem = collected 3 ∙ rw (own_part 3 e j, other_part 3 0 t n (λ d. omega (arith, d)), other_part 3 1 l m (λ d. omega (arith, d)), other_part 3 2 u k (λ d. omega (arith, d)))
      (values_table e j)

-- ---- the records of an accepted book, where they are looked at

pub byte_word : (b : List ℕ) → Bytes b → (i : ℕ) → word b i < 65536
byte_word b B i = omega (arith, B i, B (i + 1))

pub byte_long : (b : List ℕ) → Bytes b → (i : ℕ) → long b i < 4294967296
byte_long b B i = omega (arith, byte_word b B i, byte_word b B (i + 2))

module _ (b : List ℕ) (passed : check_of b row_space ≡ Ok tt) where
  whole : contents ≤ length b
  unfolding contents_checks check_for number_of
  whole = ltb-false (length b) contents (clean_for (contents_checks b) (passed_contents b row_space passed) ShortBook 0 (omega arith))

  ends_there : body_at b 4 ≡ length b
  unfolding contents_checks check_for number_of layout_fault
  ends_there = eqb-true (body_at b 4) (length b) (not-false (eqb (body_at b 4) (length b))
      (clean_for (contents_checks b) (passed_contents b row_space passed) WrongLayout 4 (omega arith)))

  pub spans : (body_at b 1 ≡ body_at b 0 + count_at b 0 * 2) × (body_at b 2 ≡ body_at b 1 + count_at b 1 * 4) × (body_at b 3 ≡ body_at b 2 + count_at b 2 * 2)
      × (length b ≡ body_at b 3 + count_at b 3 * 4)
  unfolding body_at size_of
  spans = (refl, refl, refl, sym ends_there)

  body_is : (e : ℕ) → e ≤ 3 → body_in b e ≡ body_at b e
  unfolding body_in
  body_is e l = if_false (ltb (length b) contents) _ _ (le-ltb (length b) contents whole) ∙ if_false (ltb 3 e) _ _ (le-ltb 3 e l)

  pub count_is : (e : ℕ) → e ≤ 3 → (entry_in b e).count ≡ count_at b e
  unfolding entry_in
  count_is e l = ap (λ (x : Entry). x.count) (if_false (ltb (length b) contents) _ _ (le-ltb (length b) contents whole) ∙ if_false (ltb 3 e) _ _ (le-ltb 3 e l))

  word_is : (e k : ℕ) → e ≤ 3 → body_at b e + k * 2 + 2 ≤ length b → word_in b (body_in b e) k ≡ word b (body_at b e + k * 2)
  unfolding word_in
  word_is e k l h = rw (body_is e l) (if_true (leb (body_at b e + k * 2 + 2) (length b)) _ _ (le-leb (body_at b e + k * 2 + 2) (length b) h))

  long_is : (e k : ℕ) → e ≤ 3 → body_at b e + k * 4 + 4 ≤ length b → long_in b (body_in b e) k ≡ long b (body_at b e + k * 4)
  unfolding long_in
  long_is e k l h = rw (body_is e l) (if_true (leb (body_at b e + k * 4 + 4) (length b)) _ _ (le-leb (body_at b e + k * 4 + 4) (length b) h))

  pub task_is : (k : ℕ) → k < count_at b 0 → task_in b k ≡ word b (body_at b 0 + k * 2)
  unfolding task_in
  task_is k l = word_is 0 k (omega arith) (omega (arith, spans.0, spans.1, spans.2, spans.3))

  pub lock_is : (k : ℕ) → k < count_at b 1 → lock_in b k ≡ long b (body_at b 1 + k * 4)
  unfolding lock_in
  lock_is k l = long_is 1 k (omega arith) (omega (arith, spans.1, spans.2, spans.3))

  pub use_is : (k : ℕ) → k < count_at b 2 → use_in b k ≡ word b (body_at b 2 + k * 2)
  unfolding use_in
  use_is k l = word_is 2 k (omega arith) (omega (arith, spans.2, spans.3))

  pub event_is : (k : ℕ) → k < count_at b 3 → event_in b k ≡ long b (body_at b 3 + k * 4)
  unfolding event_in
  event_is k l = long_is 3 k (omega arith) (omega (arith, spans.3))

  -- ---- so the text reads as they do

  module _ (B : Bytes b) where
    -- what the writer of these records found: none of them is at fault
    written : WrittenBack b (write_of (tasks_of b) (locks_of b) (uses_of b) (event_numbers_of b) b)
    unfolding verdict_number
    written = writing.again b row_space b B (ap verdict_number passed) (omega arith)

    verdict_as : (v : Verdict) (c buffer : List ℕ) → (wrote_as v c buffer).verdict ≡ v
    unfolding wrote_as
    verdict_as (Ok _) c buffer = refl
    verdict_as (Err f) c buffer = refl

    pub clean : first_fault (write_checks (tasks_of b) (locks_of b) (uses_of b) (event_numbers_of b) (length b)) ≡ Ok tt
    unfolding write_of
    clean = sym (verdict_as (first_fault (write_checks (tasks_of b) (locks_of b) (uses_of b) (event_numbers_of b) (length b))) _ b) ∙ none_refused_at _ written.accepted

    pub second_none : (k : ℕ) → k < count_at b 1 → lock_second (lock_in b k) ≡ 0
    unfolding write_checks whole_checks load_checks record_checks check_for number_of lock_fault_at lock_fault
    second_none k l =
        let f : lock_fault_at (locks_of b) k ≡ false = clean_for (write_checks (tasks_of b) (locks_of b) (uses_of b) (event_numbers_of b) (length b)) clean WrongLock k
        (omega (arith, length_from (λ i. long b (body_at b 1 + i * 4)) 0 (count_at b 1))) in
        let here : at (locks_of b) k ≡ lock_in b k = get_d_tabulate (λ i. long b (body_at b 1 + i * 4)) (count_at b 1) k 0 l ∙ sym (lock_is k l) in
        let g : not (eqb (lock_second (at (locks_of b) k)) 0) ≡ false = (or_false (eqb (lock_ceiling (at (locks_of b) k)) 0) (not (eqb (lock_second (at (locks_of b) k)) 0))
        (or_false (eqb (lock_ceiling (at (locks_of b) k)) 0 || not (eqb (lock_second (at (locks_of b) k)) 0)) (eqb (lock_limit (at (locks_of b) k)) 0) f).0).1 in
        ap lock_second (sym here) ∙ eqb-true (lock_second (at (locks_of b) k)) 0 (not-false (eqb (lock_second (at (locks_of b) k)) 0) g)

    pub event_right : (k : ℕ) → k < count_at b 3 → number_fault (event_in b k) ≡ false
    unfolding write_checks whole_checks load_checks record_checks check_for number_of
    event_right k l =
        let f : number_fault (at (event_numbers_of b) k) ≡ false = clean_for (write_checks (tasks_of b) (locks_of b) (uses_of b) (event_numbers_of b) (length b)) clean WrongEvent k
        (omega (arith, length_from (λ i. long b (body_at b 3 + i * 4)) 0 (count_at b 3))) in
        let here : at (event_numbers_of b) k ≡ event_in b k = get_d_tabulate (λ i. long b (body_at b 3 + i * 4)) (count_at b 3) k 0 l ∙ sym (event_is k l) in
        ap number_fault (sym here) ∙ f

    -- the four parts
    task_lines_lem : Reads (task_part b (count_at b 0)) (Line.Blank ∷ rows 0 (task_in b) (count_at b 0))
    unfolding task_part task_lines ascii last_line nothing
    task_lines_lem = rw (filled_byte hash (ascii " @ tasks: base, maximum\n") (count_at b 0 ∷ []) refl)
        (part_reads (filled (ascii " @ tasks: base, maximum\n") (count_at b 0 ∷ [])) (λ k. task_line k (task_in b k)) 0 (task_in b) (count_at b 0)
        (filled_ends (ascii " @ tasks: base, maximum\n") (count_at b 0 ∷ []) refl)
        (λ k l. reads_task k (task_in b k) (omega (arith, task_is k l, byte_word b B (body_at b 0 + k * 2)))))

    lock_lines_lem : Reads (lock_part b (count_at b 1)) (Line.Blank ∷ rows 1 (lock_in b) (count_at b 1))
    unfolding lock_part lock_lines ascii last_line nothing
    lock_lines_lem = rw (filled_byte hash (ascii " @ locks: ceiling, limit\n") (count_at b 1 ∷ []) refl)
        (part_reads (filled (ascii " @ locks: ceiling, limit\n") (count_at b 1 ∷ [])) (λ k. lock_line k (lock_in b k)) 1 (lock_in b) (count_at b 1)
        (filled_ends (ascii " @ locks: ceiling, limit\n") (count_at b 1 ∷ []) refl)
        (λ k l. reads_lock k (lock_in b k) (omega (arith, lock_is k l, byte_long b B (body_at b 1 + k * 4))) (second_none k l)))

    use_lines_lem : Reads (use_part b (count_at b 2)) (Line.Blank ∷ rows 2 (use_in b) (count_at b 2))
    unfolding use_part use_lines ascii last_line nothing
    use_lines_lem = rw (filled_byte hash (ascii " @ uses: task, lock\n") (count_at b 2 ∷ []) refl)
        (part_reads (filled (ascii " @ uses: task, lock\n") (count_at b 2 ∷ [])) (λ k. use_line k (use_in b k)) 2 (use_in b) (count_at b 2)
        (filled_ends (ascii " @ uses: task, lock\n") (count_at b 2 ∷ []) refl)
        (λ k l. reads_use k (use_in b k) (omega (arith, use_is k l, byte_word b B (body_at b 2 + k * 2)))))

    module _ (v : Verdict) (a : ℕ) (rs : List ℕ) where
      event_lines_lem : Reads (event_part b v a rs (count_at b 3)) (Line.Blank ∷ rows 3 (event_in b) (count_at b 3))
      unfolding event_part event_lines ascii last_line nothing
      event_lines_lem = rw (filled_byte hash (ascii " @ events\n") (count_at b 3 ∷ []) refl)
          (part_reads (filled (ascii " @ events\n") (count_at b 3 ∷ [])) (λ k. event_line (event_in b k) (comment_of v a rs k)) 3 (event_in b) (count_at b 3)
          (filled_ends (ascii " @ events\n") (count_at b 3 ∷ []) refl)
          (λ k l. reads_event (event_in b k) (comment_of v a rs k) (comment_so v a rs k) (omega (arith, event_is k l, byte_long b B (body_at b 3 + k * 4)))
          (event_right k l)))

      -- all of them
      abbrev lines : List Line
      lines = shown (task_in b) (lock_in b) (use_in b) (event_in b) (count_at b 0) (count_at b 1) (count_at b 2) (count_at b 3)

      parts_read : Reads (parts_of b v a rs) lines
      unfolding parts_of first_parts last_parts
      parts_read = rw (count_is 0 (omega arith), count_is 1 (omega arith), count_is 2 (omega arith), count_is 3 (omega arith))
          (reads_two (task_part b (count_at b 0) ++ lock_part b (count_at b 1)) (use_part b (count_at b 2) ++ event_part b v a rs (count_at b 3))
          ((Line.Blank ∷ rows 0 (task_in b) (count_at b 0)) ++ (Line.Blank ∷ rows 1 (lock_in b) (count_at b 1)))
          ((Line.Blank ∷ rows 2 (use_in b) (count_at b 2)) ++ (Line.Blank ∷ rows 3 (event_in b) (count_at b 3)))
          (reads_two (task_part b (count_at b 0)) (lock_part b (count_at b 1)) (Line.Blank ∷ rows 0 (task_in b) (count_at b 0))
          (Line.Blank ∷ rows 1 (lock_in b) (count_at b 1)) task_lines_lem lock_lines_lem)
          (reads_two (use_part b (count_at b 2)) (event_part b v a rs (count_at b 3)) (Line.Blank ∷ rows 2 (use_in b) (count_at b 2))
          (Line.Blank ∷ rows 3 (event_in b) (count_at b 3)) use_lines_lem event_lines_lem))

    -- the text of the book
    abbrev said : List Line
    said = shown (task_in b) (lock_in b) (use_in b) (event_in b) (count_at b 0) (count_at b 1) (count_at b 2) (count_at b 3)

    text_lines : read_lines (shown_of b) ≡ said
    unfolding shown_of shown_as lines_of
    text_lines = ap (λ w. read_lines (shown_as w b)) passed
        ∙ ap read_lines (sym (append-nil (shown_as (Ok tt) b)))
        ∙ parts_read (ran_of Second b).verdict (ran_of Second b).state.head.accepted (ran_of Second b).rows []
        ∙ append-nil said

    pub read_right : first_wrong 0 (read_lines (shown_of b)) ≡ None
    read_right = ap (first_wrong 0) text_lines
        ∙ rights_none said 0 (shown_right (task_in b) (lock_in b) (use_in b) (event_in b) (count_at b 0) (count_at b 1) (count_at b 2) (count_at b 3))

    all_plain : (part : ℕ) → records_of part (lines_of (shown_of b)) ≡ collect part said
    all_plain part = plain_records part (lines_of (shown_of b))
        (ap plains text_lines ∙ shown_plain (task_in b) (lock_in b) (use_in b) (event_in b) (count_at b 0) (count_at b 1) (count_at b 2) (count_at b 3))
        ∙ ap (collect part) text_lines

    pub read_tasks : records_of 0 (lines_of (shown_of b)) ≡ tasks_of b
    read_tasks = all_plain 0
        ∙ tasks_back (task_in b) (lock_in b) (use_in b) (event_in b) (count_at b 0) (count_at b 1) (count_at b 2) (count_at b 3)
        ∙ from_same (task_in b) (λ i. word b (body_at b 0 + i * 2)) 0 (count_at b 0) (λ k _ l. task_is k (omega arith))

    pub read_locks : records_of 1 (lines_of (shown_of b)) ≡ locks_of b
    read_locks = all_plain 1
        ∙ locks_back (task_in b) (lock_in b) (use_in b) (event_in b) (count_at b 0) (count_at b 1) (count_at b 2) (count_at b 3)
        ∙ from_same (lock_in b) (λ i. long b (body_at b 1 + i * 4)) 0 (count_at b 1) (λ k _ l. lock_is k (omega arith))

    pub read_uses : records_of 2 (lines_of (shown_of b)) ≡ uses_of b
    read_uses = all_plain 2
        ∙ uses_back (task_in b) (lock_in b) (use_in b) (event_in b) (count_at b 0) (count_at b 1) (count_at b 2) (count_at b 3)
        ∙ from_same (use_in b) (λ i. word b (body_at b 2 + i * 2)) 0 (count_at b 2) (λ k _ l. use_is k (omega arith))

    pub read_events : records_of 3 (lines_of (shown_of b)) ≡ event_numbers_of b
    read_events = all_plain 3
        ∙ events_back_lem (task_in b) (lock_in b) (use_in b) (event_in b) (count_at b 0) (count_at b 1) (count_at b 2) (count_at b 3)
        ∙ from_same (event_in b) (λ i. long b (body_at b 3 + i * 4)) 0 (count_at b 3) (λ k _ l. event_is k (omega arith))
