-- Laws of the lines of a book's text. Assumes nothing.
use Rattle.std.specs.Prelude.{Ok, Err}
use Rattle.rules.specs.Numbers.Verdict.{Verdict}
use mathlib.Core.Path.{◌≡◌, refl, sym, ◌∙◌, ap}
use mathlib.Core.Bool.{true, false}
use mathlib.Core.List.{List, [], ◌++◌}
use Prim.Native.Nat.{ℕ, ◌+◌}
use native.Mathlib.Numerals.{add-one}
use lib.Dec.{eqb, leb}
use lib.ListN.{length}
use borrow.Author.Tests.{ne_eqb, lt-leb}
use Rattle.rules.specs.Numbers.Refusal.{number_of}
use Rattle.rules.specs.Books.Event.{number_fault, number_event}
use Rattle.rules.specs.Books.Book.{check_of, checked_as, checked_of, checked_with}
use Rattle.rules.specs.Books.Book.{Checked}
use Rattle.rules.specs.declared.answer.Fault.{Fault}
use Rattle.rules.specs.declared.answer.Opened.{Opened}
use Rattle.rules.specs.declared.answer.Replayed.{Replayed}
use Rattle.rules.specs.declared.protocol.Protocol.TheVariants.{Second}
use Rattle.rules.specs.declared.refusal.Refusal.{Refusal}
use Rattle.rules.specs.declared.refusal.Refusal.TheVariants.{ShortBook, WrongCount, WrongLayout}
use Rattle.rules.specs.Replays.Replay.{ran_as}
use Rattle.rules.proofs.Numbers.Choice.{if_true, if_false}
use Rattle.page.specs.declared.Page.{Page}
use Rattle.page.specs.Page.{typed}
use Rattle.book.specs.Look.{task_in, lock_in, use_in, event_in}
use Rattle.wording.specs.Records.{task_line, lock_line, use_line, event_words, no_event_line, event_line, size_line}
use Rattle.office.specs.Ran.{row_space, ran_of}
use Rattle.office.specs.Show.{each, task_lines, lock_lines, use_lines, comment_of, event_lines, parts_of, entries_of, refused_body, shown_as, shown_of}
use Rattle.office.proofs.Numbers.{other_number, past_three}

-- ---- no line, and a line after others

pub tasks_none : (b : List ℕ) → task_lines b 0 ≡ []
unfolding task_lines each
tasks_none b = refl

pub tasks_more : (b : List ℕ) (k : ℕ) → task_lines b (k + 1) ≡ task_lines b k ++ task_line k (task_in b k)
unfolding task_lines each
tasks_more b k = rw (add-one k) refl

pub locks_none : (b : List ℕ) → lock_lines b 0 ≡ []
unfolding lock_lines each
locks_none b = refl

pub locks_more : (b : List ℕ) (k : ℕ) → lock_lines b (k + 1) ≡ lock_lines b k ++ lock_line k (lock_in b k)
unfolding lock_lines each
locks_more b k = rw (add-one k) refl

pub uses_none : (b : List ℕ) → use_lines b 0 ≡ []
unfolding use_lines each
uses_none b = refl

pub uses_more : (b : List ℕ) (k : ℕ) → use_lines b (k + 1) ≡ use_lines b k ++ use_line k (use_in b k)
unfolding use_lines each
uses_more b k = rw (add-one k) refl

pub events_none : (b : List ℕ) (v : Verdict) (a : ℕ) (rows : List ℕ) → event_lines b v a rows 0 ≡ []
unfolding event_lines each
events_none b v a rows = refl

pub events_more : (b : List ℕ) (v : Verdict) (a : ℕ) (rows : List ℕ) (k : ℕ)
    → event_lines b v a rows (k + 1) ≡ event_lines b v a rows k ++ event_line (event_in b k) (comment_of v a rows k)
unfolding event_lines each
events_more b v a rows k = rw (add-one k) refl

pub ruleset lines = (tasks_none, tasks_more, locks_none, locks_more, uses_none, uses_more, events_none, events_more)

-- ---- a record of no event, and an event with its comment

pub event_none : (w : ℕ) (comment : List ℕ) → number_fault w ≡ true → event_line w comment ≡ no_event_line w
unfolding event_line
event_none w comment e = if_true (number_fault w) _ _ e

pub event_some : (w : ℕ) (comment : List ℕ) → number_fault w ≡ false → event_line w comment ≡ event_words (number_event w) ++ comment
unfolding event_line
event_some w comment e = if_false (number_fault w) _ _ e

pub ruleset events = (event_none, event_some)

-- ---- what can be read of a refused book

module _ (why : Refusal) (b : List ℕ) where
  pub body_short : why ≡ ShortBook → refused_body (number_of why) b ≡ size_line (length b)
  unfolding refused_body number_of
  body_short e = ap (λ x. refused_body (number_of x) b) e

  pub body_count : why ≡ WrongCount → refused_body (number_of why) b ≡ entries_of b
  unfolding refused_body number_of
  body_count e = ap (λ x. refused_body (number_of x) b) e

  pub body_layout : why ≡ WrongLayout → refused_body (number_of why) b ≡ entries_of b
  unfolding refused_body number_of
  body_layout e = ap (λ x. refused_body (number_of x) b) e

  pub body_parts : (why ≡ ShortBook → ⊥) → (why ≡ WrongCount → ⊥) → (why ≡ WrongLayout → ⊥) → refused_body (number_of why) b ≡ parts_of b (Ok tt) 0 []
  unfolding refused_body number_of
  body_parts one two three =
      if_false (eqb (number_of why) 1) _ _ (ne_eqb _ 1 (other_number why ShortBook one))
      ∙ if_false (leb (number_of why) 3) _ _ (lt-leb _ 3 (past_three why one two three))

pub ruleset bodies = (body_short, body_count, body_layout, body_parts)

-- ---- by the verdict of the check

checked_verdict : (b : List ℕ) (v : Verdict) → (checked_as v b).verdict ≡ v
unfolding checked_as
checked_verdict b (Ok _) = refl
checked_verdict b (Err f) = refl

-- ---- the whole

pub shown_ran : (b rows : List ℕ) (s : Replayed) (p r : Page ℕ) → r ≡ typed p (parts_of b s.verdict s.state.head.accepted rows) → ran_as s rows ≡ ran_of Second b
    → r ≡ typed p (shown_as (Ok tt) b)
unfolding shown_as
shown_ran b rows s p r h e = h ∙ ap (λ x. typed p (parts_of b x.verdict x.state.head.accepted x.rows)) e

module _ (b : List ℕ) (p r : Page ℕ) where
  told : (c : Checked) → c ≡ checked_of b row_space → shown_of b ≡ shown_as c.verdict b
  unfolding shown_of
  told c h = ap (λ x. shown_as x b) (sym (checked_verdict b (check_of b row_space)) ∙ sym (ap (λ (k : Checked). k.verdict) h))

  pub shown_accepted : (o : Opened) → checked_with (Ok o) ≡ checked_of b row_space → r ≡ typed p (shown_as (Ok tt) b) → r ≡ typed p (shown_of b)
  unfolding checked_with
  shown_accepted o h g = g ∙ ap (typed p) (sym (told (checked_with (Ok o)) h))

  pub shown_not : (f : Fault) → checked_with (Err f) ≡ checked_of b row_space → r ≡ typed p (shown_as (Err f) b) → r ≡ typed p (shown_of b)
  unfolding checked_with
  shown_not f h g = g ∙ ap (typed p) (sym (told (checked_with (Err f)) h))
