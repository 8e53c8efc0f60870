-- The ways through the code that composes a book. Assumes nothing.
use Rattle.std.specs.Prelude.{Option, Some, None, Err, Ok}
use mathlib.Core.Path.{◌≡◌, refl, sym, ◌∙◌, ap, ap₂}
use mathlib.Core.Logic.{⊎_elim}
use mathlib.Core.List.{List, [], ◌∷◌}
use Prim.Native.Nat.{ℕ, zero, suc, ◌+◌, ◌≤◌, ◌<◌}
use native.Mathlib.Numerals.{add-one}
use native.Mathlib.Omega.{arith}
use denote.MutBor.{MutBor, at_last}
use lib.Dec.{eqb, ltb}
use lib.ListN.{length, set, take, replicate, length-set, length-replicate, length-take}
use lib.Seq.{set_out}
use borrow.Author.Tests.{lt-ltb, le-ltb, ne_eqb}
use Rattle.rules.specs.Numbers.Capacity.{max_tasks, max_locks, max_uses, max_events}
use Rattle.rules.specs.Numbers.Place.{at, stored}
use Rattle.rules.specs.Numbers.Refusal.{number_of}
use Rattle.rules.specs.Books.Plan.{most}
use Rattle.rules.specs.Books.Write.{Wrote, write_of, wrote_with}
use Rattle.rules.specs.declared.answer.Fault.{Fault}
use Rattle.rules.specs.declared.refusal.Refusal.{Refusal}
use Rattle.rules.specs.declared.refusal.Refusal.TheVariants.{WrongCount, WrongTask, WrongLock, WrongCeiling, WrongEvent}
use Rattle.rules.proofs.Numbers.Choice.{if_true, if_false, lt_or_le}
use Rattle.page.specs.Page.{typed, page as lent}
use Rattle.page.proofs.Typed.{put_within, put_past}
use Rattle.texts.specs.Lines.{lines_of, read_lines, records_of, first_wrong}
use Rattle.texts.specs.declared.line.Line.{Line}
use Rattle.texts.proofs.Small.{tasks_below, uses_below}
use Rattle.wording.specs.Mistakes.{mistake_of}
use Rattle.office.specs.Compose.{text_space, unwritten, too_long, entry_part, refused_part, refused_record, refused_by, written}
use Rattle.office.specs.Compose.{composed_as, composed_records, composed_by, compose_of}
use Rattle.office.specs.Answered.{page, said_on}
use Rattle.office.specs.Small.{Small}
use Rattle.office.proofs.Cuts.{cut_write}
use Rattle.office.proofs.Numbers.{other_number}

-- ---- the records of a text

-- a front of numbers that two bytes hold
front_small : (n : ℕ) (xs : List ℕ) → ((i : ℕ) → at xs i < 65536) → (i : ℕ) → at (take n xs) i < 65536
front_small zero xs h i = omega arith
front_small (suc n) [] h i = omega arith
front_small (suc n) (x ∷ xs) h zero = h 0
front_small (suc n) (x ∷ xs) h (suc i) = front_small n xs (λ j. h (suc j)) i

abbrev pub zeros : ℕ → List ℕ
zeros n = replicate n 0

-- the records of a part, as many as there is room for
abbrev pub Kept : List ℕ → (part room : ℕ) → List ℕ → Type 0
Kept text part room xs = xs ≡ take (length (zeros room)) (records_of part (lines_of text))

pub tasks_small : (text xs : List ℕ) (n : ℕ) → Kept text 0 n xs → Small xs
tasks_small text xs n h = record { below = λ i. rw h (front_small (length (zeros n)) (records_of 0 (lines_of text)) (tasks_below text) i) }

pub uses_small : (text xs : List ℕ) (n : ℕ) → Kept text 2 n xs → Small xs
uses_small text xs n h = record { below = λ i. rw h (front_small (length (zeros n)) (records_of 2 (lines_of text)) (uses_below text) i) }

pub kept_few : (text xs : List ℕ) (part n : ℕ) → Kept text part n xs → length xs ≤ n
kept_few text xs part n h = omega (arith, ap length h, length-take (length (zeros n)) (records_of part (lines_of text)), length-replicate {A = ℕ} n 0)

sized : (text xs : List ℕ) (part n : ℕ) → Kept text part n xs → xs ≡ take n (records_of part (lines_of text))
sized text xs part n h = h ∙ ap (λ k. take k (records_of part (lines_of text))) (length-replicate {A = ℕ} n 0)

pub text_written : (text ts ls us es buffer : List ℕ) (w : Wrote) → w ≡ write_of ts ls us es buffer
    → Kept text 0 (suc max_tasks) ts → Kept text 1 (suc max_locks) ls → Kept text 2 (suc max_uses) us → Kept text 3 (suc max_events) es
    → w ≡ written (lines_of text) buffer
text_written text ts ls us es buffer w h a b c d =
    h ∙ rw (sized text ts 0 (suc max_tasks) a, sized text ls 1 (suc max_locks) b, sized text us 2 (suc max_uses) c, sized text es 3 (suc max_events) d)
    (cut_write (records_of 0 (lines_of text)) (records_of 1 (lines_of text)) (records_of 2 (lines_of text)) (records_of 3 (lines_of text)) buffer)

-- ---- the part and the record that a refusal names

module _ (why : Refusal) (place : ℕ) where
  pub part_count : why ≡ WrongCount → refused_part (number_of why) place ≡ entry_part place
  unfolding refused_part number_of
  part_count e = ap (λ x. refused_part (number_of x) place) e

  pub part_task : why ≡ WrongTask → refused_part (number_of why) place ≡ 0
  unfolding refused_part number_of
  part_task e = ap (λ x. refused_part (number_of x) place) e

  pub part_lock : why ≡ WrongLock → refused_part (number_of why) place ≡ 1
  unfolding refused_part number_of
  part_lock e = ap (λ x. refused_part (number_of x) place) e

  pub part_ceiling : why ≡ WrongCeiling → refused_part (number_of why) place ≡ 1
  unfolding refused_part number_of
  part_ceiling e = ap (λ x. refused_part (number_of x) place) e

  pub part_event : why ≡ WrongEvent → refused_part (number_of why) place ≡ 3
  unfolding refused_part number_of
  part_event e = ap (λ x. refused_part (number_of x) place) e

  pub part_use : (why ≡ WrongCount → ⊥) → (why ≡ WrongTask → ⊥) → (why ≡ WrongLock → ⊥) → (why ≡ WrongCeiling → ⊥) → (why ≡ WrongEvent → ⊥)
      → refused_part (number_of why) place ≡ 2
  unfolding refused_part number_of
  part_use two four five seven eight =
      if_false (eqb (number_of why) 2) _ _ (ne_eqb _ 2 (other_number why WrongCount two))
      ∙ if_false (eqb (number_of why) 4) _ _ (ne_eqb _ 4 (other_number why WrongTask four))
      ∙ if_false (eqb (number_of why) 5) _ _ (ne_eqb _ 5 (other_number why WrongLock five))
      ∙ if_false (eqb (number_of why) 7) _ _ (ne_eqb _ 7 (other_number why WrongCeiling seven))
      ∙ if_false (eqb (number_of why) 8) _ _ (ne_eqb _ 8 (other_number why WrongEvent eight))

  pub record_count : why ≡ WrongCount → refused_record (number_of why) place ≡ most (entry_part place)
  unfolding refused_record number_of
  record_count e = ap (λ x. refused_record (number_of x) place) e

  pub record_there : (why ≡ WrongCount → ⊥) → refused_record (number_of why) place ≡ place
  unfolding refused_record number_of
  record_there n = if_false (eqb (number_of why) 2) _ _ (ne_eqb _ 2 (other_number why WrongCount n))

pub ruleset parts = (part_count, part_task, part_lock, part_ceiling, part_event, part_use)

pub ruleset records = (record_count, record_there)

-- ---- the whole

module _ (text buffer bytes : List ℕ) where
  as_told : (w : Wrote) → w ≡ written (lines_of text) buffer → composed_records text buffer ≡ composed_as w.verdict (read_lines text) w
  unfolding composed_records
  as_told w h = ap (λ (x : Wrote). composed_as x.verdict (read_lines text) x) (sym h)

  pub records_written : (n : ℕ) → wrote_with (Ok n) bytes ≡ written (lines_of text) buffer
      → composed_records text buffer ≡ record { length = n; bytes = bytes; said = [] }
  unfolding composed_as wrote_with
  records_written n h = as_told (wrote_with (Ok n) bytes) h

  pub records_refused : (f : Fault) → wrote_with (Err f) bytes ≡ written (lines_of text) buffer
      → composed_records text buffer ≡ record { length = 0; bytes = bytes; said = refused_by (read_lines text) f.why f.place }
  unfolding composed_as wrote_with
  records_refused f h = as_told (wrote_with (Err f) bytes) h

module _ (text buffer : List ℕ) where
  pub text_long : text_space < length text → compose_of text buffer ≡ unwritten buffer too_long
  unfolding compose_of
  text_long l = if_true (ltb text_space (length text)) _ _ (lt-ltb text_space (length text) l)

  module _ (l : length text ≤ text_space) where
    short : (first : Option (ℕ × Line)) → first_wrong 0 (read_lines text) ≡ first → compose_of text buffer ≡ composed_by first text buffer
    unfolding compose_of
    short first f = if_false (ltb text_space (length text)) _ _ (le-ltb text_space (length text) l) ∙ ap (λ x. composed_by x text buffer) f

    pub text_wrong : (n : ℕ) (line : Line) → first_wrong 0 (read_lines text) ≡ Some (n, line) → compose_of text buffer ≡ unwritten buffer (mistake_of n line)
    unfolding composed_by
    text_wrong n line e = short (Some (n, line)) e

    pub text_right : first_wrong 0 (read_lines text) ≡ None → compose_of text buffer ≡ composed_records text buffer
    unfolding composed_by
    text_right e = short None e

pub ruleset wholes = (records_written, records_refused, text_long, text_wrong, text_right)

-- ---- the line on its page

stored_past : (out : List ℕ) (i : ℕ) (text : List ℕ) → length out ≤ i → stored out i text ≡ out
unfolding stored
stored_past out i [] l = refl
stored_past out i (b ∷ bs) l = ap (λ o. stored o (suc i) bs) (set_out out i b l) ∙ stored_past out (suc i) bs (omega arith)

-- what is said on a page is what is typed there byte by byte, at every place
pub said_typed : (out : MutBor (List ℕ)) (i : ℕ) (text : List ℕ)
    → said_on (page out.now i) text ≡ page (typed (lent out i) text).out.now (typed (lent out i) text).place
unfolding typed stored
said_typed out i [] = ap (page out.now) (omega arith)
said_typed out i (b ∷ bs) = ⊎_elim
    (λ (h : i < length out.now). ap (page (stored (set out.now i b) (suc i) bs)) (omega (arith, length-set out.now i b))
    ∙ said_typed (at_last out (set out.now i b)) (suc i) bs
    ∙ ap (λ p. page (typed p bs).out.now (typed p bs).place) (ap (lent (at_last out (set out.now i b))) (sym (add-one i)) ∙ put_within out i b h))
    (λ (h : length out.now ≤ i). ap₂ page
    (ap (λ o. stored o (suc i) bs) (set_out out.now i b h) ∙ stored_past out.now (suc i) bs (omega arith) ∙ sym (stored_past out.now i bs h)) (omega arith)
    ∙ said_typed out i bs
    ∙ ap (λ p. page (typed p bs).out.now (typed p bs).place) (put_past out i b h))
    (lt_or_le i (length out.now))
