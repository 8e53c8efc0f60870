-- The book of records, read back: its contents are right, its bodies are the records, and what is asked of it is asked of them. Assumes nothing.
use mathlib.Core.Path.{◌≡◌, refl, sym, ◌∙◌, ap, ap₂}
use mathlib.Core.Bool.{false, not}
use mathlib.Core.List.{List, [], ◌∷◌, ◌++◌, map, append_assoc, append-nil}
use Prim.Native.Nat.{ℕ, zero, suc, ◌+◌, ◌*◌, ◌<◌}
use native.Mathlib.Nat.{le_of_suc-le-suc, not-suc-le-zero}
use native.Mathlib.Omega.{arith}
use lib.Dec.{ltb}
use lib.ListN.{length, get_or, drop, length-append, length-map}
use lib.Seq.{get_or-drop, drop-drop, drop_at, ext_get_or}
use borrow.Author.Tests.{lt-ltb, le-ltb, eq-eqb}
use Rattle.rules.specs.Numbers.Place.{at, tabulate}
use Rattle.rules.specs.Numbers.Refusal.{Check, first_fault}
use Rattle.rules.specs.Books.Event.{record_kind, record_id, record_amount, number_fault, number_event}
use Rattle.rules.specs.Books.Plan.{count_fault}
use Rattle.rules.specs.Books.Load.{plan_of, load_checks}
use Rattle.rules.specs.Books.Book.{word, long, contents, kind_at, count_at, offset_at, size_of, body_at, layout_fault, tasks_of, locks_of, uses_of}
use Rattle.rules.specs.Books.Book.{event_numbers_of, event_body, record_fault, record_event, events_of, plan_in}
use Rattle.rules.specs.Books.Book.{contents_checks, event_check, event_checks, check_of}
use Rattle.rules.specs.Books.Bytes.{word_bytes, long_bytes, book_of}
use Rattle.rules.specs.Books.Write.{counts_of, whole_checks}
use Rattle.rules.specs.declared.event.Event.TheVariants.{Tick}
use Rattle.rules.specs.declared.refusal.Refusal.TheVariants.{ShortRows}
use Rattle.rules.proofs.Numbers.Place.{length_from, get_d_tabulate}
use Rattle.rules.proofs.Numbers.Checks.{clean_passes, same_faults, same_after}

-- ---- a list that is read place by place

pub read_all : {X : Type 0} (d : X) (xs : List X) (f : ℕ → X) → ((i : ℕ) → i < length xs → f i ≡ get_or xs i d) → tabulate (length xs) f ≡ xs
read_all d xs f h =
    ext_get_or d (tabulate (length xs) f) xs (length_from f 0 (length xs))
    (λ i l. let q : i < length xs = omega (arith, l, length_from f 0 (length xs)) in get_d_tabulate f (length xs) i d q ∙ h i q)

-- ---- numbers that lie past a place

word_past : (b : List ℕ) (p j : ℕ) → word b (p + j) ≡ word (drop p b) j
word_past b p j = ap₂ (λ x y. x + y * 256) (sym (get_or-drop p b j 0)) (ap (at b) (omega arith) ∙ sym (get_or-drop p b (j + 1) 0))

long_past : (b : List ℕ) (p j : ℕ) → long b (p + j) ≡ long (drop p b) j
long_past b p j = ap₂ (λ x y. x + y * 65536) (word_past b p j) (ap (word b) (omega arith) ∙ word_past b p (j + 2))

-- ---- a body

pub word_size : (ws : List ℕ) → length (word_bytes ws) ≡ length ws * 2
unfolding word_bytes
word_size [] = refl
word_size (w ∷ ws) = omega (arith, word_size ws)

pub long_size : (ws : List ℕ) → length (long_bytes ws) ≡ length ws * 4
unfolding long_bytes
long_size [] = refl
long_size (w ∷ ws) = omega (arith, long_size ws)

-- record i of a body that other bytes may follow
read_word : (ws rest : List ℕ) (i : ℕ) → i < length ws → word (word_bytes ws ++ rest) (i * 2) ≡ at ws i
unfolding word_bytes
read_word [] rest i h = absurd (not-suc-le-zero h)
read_word (w ∷ ws) rest zero h = omega arith
read_word (w ∷ ws) rest (suc i) h =
    let e : suc i * 2 ≡ 2 + i * 2 = omega arith in
    ap (word (word_bytes (w ∷ ws) ++ rest)) e ∙ word_past (word_bytes (w ∷ ws) ++ rest) 2 (i * 2) ∙ read_word ws rest i (le_of_suc-le-suc h)

pub read_long : (ws rest : List ℕ) (i : ℕ) → i < length ws → long (long_bytes ws ++ rest) (i * 4) ≡ at ws i
unfolding long_bytes
read_long [] rest i h = absurd (not-suc-le-zero h)
read_long (w ∷ ws) rest zero h = omega arith
read_long (w ∷ ws) rest (suc i) h =
    let e : suc i * 4 ≡ 4 + i * 4 = omega arith in
    ap (long (long_bytes (w ∷ ws) ++ rest)) e ∙ long_past (long_bytes (w ∷ ws) ++ rest) 4 (i * 4) ∙ read_long ws rest i (le_of_suc-le-suc h)

-- the parts of record i of an event body
read_parts : (ws : List ℕ) (i : ℕ) → i < length ws → (at (long_bytes ws) (i * 4) ≡ record_kind (at ws i)) × (at (long_bytes ws) (i * 4 + 1) ≡ record_id (at ws i))
    × (word (long_bytes ws) (i * 4 + 2) ≡ record_amount (at ws i))
unfolding long_bytes
read_parts [] i h = absurd (not-suc-le-zero h)
read_parts (w ∷ ws) zero h = (refl, refl, omega arith)
read_parts (w ∷ ws) (suc i) h =
    let (a, b, c) = read_parts ws i (le_of_suc-le-suc h) in
    let here : (p j : ℕ) → p ≡ 4 + j → at (long_bytes (w ∷ ws)) p ≡ at (long_bytes ws) j = λ p j e. ap (at (long_bytes (w ∷ ws))) e
    ∙ sym (get_or-drop 4 (long_bytes (w ∷ ws)) j 0) in
    let e : suc i * 4 + 2 ≡ 4 + (i * 4 + 2) = omega arith in (
      here (suc i * 4) (i * 4) (omega arith) ∙ a,
      here (suc i * 4 + 1) (i * 4 + 1) (omega arith) ∙ b,
      ap (word (long_bytes (w ∷ ws))) e ∙ word_past (long_bytes (w ∷ ws)) 4 (i * 4 + 2) ∙ c,
    )

-- where a body lies at place p of b, its records are read there
words_there : (b ws rest : List ℕ) (p : ℕ) → drop p b ≡ word_bytes ws ++ rest → tabulate (length ws) (λ i. word b (p + i * 2)) ≡ ws
words_there b ws rest p e = read_all 0 ws (λ i. word b (p + i * 2)) (λ i h. word_past b p (i * 2) ∙ ap (λ x. word x (i * 2)) e ∙ read_word ws rest i h)

longs_there : (b ws rest : List ℕ) (p : ℕ) → drop p b ≡ long_bytes ws ++ rest → tabulate (length ws) (λ i. long b (p + i * 4)) ≡ ws
longs_there b ws rest p e = read_all 0 ws (λ i. long b (p + i * 4)) (λ i h. long_past b p (i * 4) ∙ ap (λ x. long x (i * 4)) e ∙ read_long ws rest i h)

-- what follows a body that lies at place p
beyond : (b body rest : List ℕ) (p q : ℕ) → drop p b ≡ body ++ rest → q ≡ p + length body → drop q b ≡ rest
beyond b body rest p q e h = ap (λ k. drop k b) h ∙ sym (drop-drop (length body) p b) ∙ ap (drop (length body)) e ∙ drop_at body rest (length body) refl

-- ---- the book of records

module _ (tasks locks uses events : List ℕ) where
  abbrev b : List ℕ
  b = book_of tasks locks uses events

  -- where the bodies of locks, uses and events start, and where the last one ends
  abbrev locks_at : ℕ
  locks_at = contents + length (word_bytes tasks)

  abbrev uses_at : ℕ
  uses_at = locks_at + length (long_bytes locks)

  abbrev events_at : ℕ
  events_at = uses_at + length (word_bytes uses)

  -- ---- the contents

  pub counts_back : (count_at b 0 ≡ length tasks) × (count_at b 1 ≡ length locks) × (count_at b 2 ≡ length uses) × (count_at b 3 ≡ length events)
  unfolding book_of
  counts_back = (omega arith, omega arith, omega arith, omega arith)

  kinds : (kind_at b 0 ≡ 1) × (kind_at b 1 ≡ 2) × (kind_at b 2 ≡ 3) × (kind_at b 3 ≡ 4)
  unfolding book_of
  kinds = (refl, refl, refl, refl)

  offsets : (offset_at b 0 ≡ contents) × (offset_at b 1 ≡ locks_at) × (offset_at b 2 ≡ uses_at) × (offset_at b 3 ≡ events_at)
  unfolding book_of
  offsets = (omega arith, omega arith, omega arith, omega arith)

  starts : (body_at b 0 ≡ contents) × (body_at b 1 ≡ locks_at) × (body_at b 2 ≡ uses_at) × (body_at b 3 ≡ events_at)
      × (body_at b 4 ≡ events_at + length (long_bytes events))
  unfolding body_at size_of
  starts = (
    refl,
    omega (arith, counts_back.0, word_size tasks),
    omega (arith, counts_back.0, counts_back.1, word_size tasks, long_size locks),
    omega (arith, counts_back.0, counts_back.1, counts_back.2, word_size tasks, long_size locks, word_size uses),
    omega (arith, counts_back.0, counts_back.1, counts_back.2, counts_back.3, word_size tasks, long_size locks, word_size uses, long_size events),
  )

  -- ---- the bodies

  tasks_there : drop contents b ≡ word_bytes tasks ++ (long_bytes locks ++ (word_bytes uses ++ long_bytes events))
  unfolding book_of
  tasks_there = refl

  locks_there : drop locks_at b ≡ long_bytes locks ++ (word_bytes uses ++ long_bytes events)
  locks_there = beyond b (word_bytes tasks) _ contents locks_at tasks_there refl

  uses_there : drop uses_at b ≡ word_bytes uses ++ long_bytes events
  uses_there = beyond b (long_bytes locks) _ locks_at uses_at locks_there refl

  events_there : drop events_at b ≡ long_bytes events
  events_there = beyond b (word_bytes uses) _ uses_at events_at uses_there refl

  pub book_size : length b ≡ contents + length tasks * 2 + length locks * 4 + length uses * 2 + length events * 4
  unfolding book_of
  book_size = omega (
    arith,
    length-append (word_bytes tasks) (long_bytes locks ++ (word_bytes uses ++ long_bytes events)),
    length-append (long_bytes locks) (word_bytes uses ++ long_bytes events),
    length-append (word_bytes uses) (long_bytes events),
    word_size tasks,
    long_size locks,
    word_size uses,
    long_size events,
  )

  pub tasks_back : tasks_of b ≡ tasks
  tasks_back = ap₂ (λ n p. tabulate n (λ i. word b (p + i * 2))) counts_back.0 starts.0 ∙ words_there b tasks _ contents tasks_there

  pub locks_back : locks_of b ≡ locks
  locks_back = ap₂ (λ n p. tabulate n (λ i. long b (p + i * 4))) counts_back.1 starts.1 ∙ longs_there b locks _ locks_at locks_there

  pub uses_back : uses_of b ≡ uses
  uses_back = ap₂ (λ n p. tabulate n (λ i. word b (p + i * 2))) counts_back.2 starts.2 ∙ words_there b uses _ uses_at uses_there

  body_back_lem : event_body b ≡ long_bytes events
  body_back_lem = ap (λ p. drop p b) starts.3 ∙ events_there

  pub numbers_back : event_numbers_of b ≡ events
  numbers_back = ap₂ (λ n p. tabulate n (λ i. long b (p + i * 4))) counts_back.3 starts.3
      ∙ longs_there b events [] events_at (events_there ∙ sym (append-nil (long_bytes events)))

  pub plan_back : plan_in b ≡ plan_of tasks locks uses
  plan_back = ap (λ x. plan_of x (locks_of b) (uses_of b)) tasks_back ∙ ap₂ (plan_of tasks) locks_back uses_back

  pub events_back_lem : events_of b ≡ map number_event events
  unfolding number_event
  events_back_lem =
      ap₂ (λ n body. tabulate n (record_event body)) counts_back.3 body_back_lem
      ∙ ap (λ n. tabulate n (record_event (long_bytes events))) (sym (length-map events number_event))
      ∙ read_all Tick (map number_event events) (record_event (long_bytes events))
      (λ i h. let q : i < length events = omega (arith, h, length-map events number_event) in
      let (x, y, z) = read_parts events i q in rw (x, y, z) (sym (mapped events i q)))
    where
      mapped : (ws : List ℕ) (i : ℕ) → i < length ws → get_or (map number_event ws) i Tick ≡ number_event (at ws i)
      mapped [] i h = absurd (not-suc-le-zero h)
      mapped (w ∷ ws) zero h = refl
      mapped (w ∷ ws) (suc i) h = mapped ws i (le_of_suc-le-suc h)

  -- ---- what is asked of it

  right : (e : ℕ) → e < 4 → kind_at b e ≡ e + 1 → offset_at b e ≡ body_at b e → layout_fault b e ≡ false
  unfolding layout_fault
  right e h k o = rw (lt-ltb e 4 h) (rw (k, o, eq-eqb (e + 1) (e + 1) refl, eq-eqb (body_at b e) (body_at b e) refl) refl)

  pub layout_right : (e : ℕ) → e < 5 → layout_fault b e ≡ false
  unfolding layout_fault
  layout_right zero h = right 0 (omega arith) kinds.0 (offsets.0 ∙ sym starts.0)
  layout_right (suc zero) h = right 1 (omega arith) kinds.1 (offsets.1 ∙ sym starts.1)
  layout_right (suc (suc zero)) h = right 2 (omega arith) kinds.2 (offsets.2 ∙ sym starts.2)
  layout_right (suc (suc (suc zero))) h = right 3 (omega arith) kinds.3 (offsets.3 ∙ sym starts.3)
  layout_right (suc (suc (suc (suc zero)))) h =
      ap not (eq-eqb (body_at b 4) (length b) (omega (arith, starts.4, book_size, word_size tasks, long_size locks, word_size uses, long_size events)))
  layout_right (suc (suc (suc (suc (suc e))))) h = absurd (omega arith)

  same_counts : (e : ℕ) → e < 4 → count_fault e (count_at b e) ≡ count_fault e (counts_of tasks locks uses events e)
  same_counts zero h = ap (count_fault 0) counts_back.0
  same_counts (suc zero) h = ap (count_fault 1) counts_back.1
  same_counts (suc (suc zero)) h = ap (count_fault 2) counts_back.2
  same_counts (suc (suc (suc zero))) h = ap (count_fault 3) counts_back.3
  same_counts (suc (suc (suc (suc e)))) h = absurd (omega arith)

  same_event : (k : ℕ) → k < length events → record_fault (event_body b) k ≡ number_fault (at events k)
  unfolding number_fault
  same_event k h = let (x, y, z) = read_parts events k h in rw (body_back_lem, x, y, z)

  -- 9, of so many events
  abbrev row_check : ℕ → Check
  row_check room = record { refusal = ShortRows; first = 0; count = 1; fault = λ _. ltb room (length events * 4) }

  -- 1 and 3 find nothing in it; 2 and 4 to 8 find what they find in the records
  pub check_back : (room : ℕ) → check_of b room ≡ first_fault (whole_checks tasks locks uses events ++ row_check room ∷ [])
  unfolding check_of contents_checks event_checks whole_checks
  check_back room =
      clean_passes _ _ (λ i h. le-ltb (length b) contents (omega (arith, book_size)))
      ∙ same_faults _ _ _ _ _ _ _ same_counts
      (clean_passes _ _ layout_right
      ∙ rw (
        tasks_back,
        locks_back,
        uses_back,
        append_assoc (load_checks tasks locks uses) (event_check (length events) (λ k. number_fault (at events k)) ∷ [])
            (row_check room ∷ []),
      )
      (same_after (load_checks tasks locks uses) _ _
      (rw counts_back.3 (same_faults _ _ _ _ _ _ _ same_event refl))))
