-- Laws of the words for a replay. Assumes nothing.
use mathlib.Core.Path.{◌≡◌, refl, ◌∙◌, ap}
use mathlib.Core.Bool.{true, false, ◌||◌}
use mathlib.Core.List.{List, [], ◌++◌}
use Prim.Native.Nat.{ℕ, ◌+◌}
use native.Mathlib.Numerals.{add-one}
use native.Mathlib.Omega.{arith}
use lib.Dec.{eqb, leb}
use lib.ListN.{length, replicate, length-replicate}
use borrow.Author.Tests.{ne_eqb, lt-leb}
use Rattle.rules.specs.Numbers.Refusal.{number_of}
use Rattle.rules.specs.Books.Book.{checked_of}
use Rattle.rules.specs.Replays.Replay.{ran_as}
use Rattle.rules.specs.declared.plan.Plan.{Plan}
use Rattle.rules.specs.declared.state.State.{State}
use Rattle.rules.specs.declared.protocol.Protocol.{Protocol}
use Rattle.rules.specs.declared.answer.Replayed.{Replayed}
use Rattle.rules.specs.declared.refusal.Refusal.{Refusal}
use Rattle.rules.specs.declared.refusal.Refusal.TheVariants.{ShortBook, WrongCount, WrongLayout, WrongTask, WrongLock, WrongUse, WrongCeiling, WrongEvent, ShortRows, AboveMaximum}
use Rattle.rules.proofs.Numbers.Choice.{if_true, if_false}
use Rattle.rules.proofs.Numbers.Refusals.{numbered}
use Rattle.page.specs.declared.Page.{Page}
use Rattle.page.specs.Page.{typed}
use Rattle.book.specs.Look.{task_in, lock_in, use_in, event_in}
use Rattle.wording.specs.Records.{task_line, lock_line, use_line, no_event_line, size_line}
use Rattle.office.specs.Ran.{row_space, ran_of}
use Rattle.office.specs.Show.{each}
use Rattle.office.specs.Explain.{call_of, call_lines, stop_words, entry_place, record_words, place_words, book_words, of_book, refused_words, explained_as, explained_of}
use Rattle.office.proofs.Numbers.{other_number, past_three}

-- ---- no call, and a call after others

pub calls_none : (b rows : List ℕ) → call_lines b rows 0 ≡ []
unfolding call_lines each
calls_none b rows = refl

pub calls_more : (b rows : List ℕ) (k : ℕ) → call_lines b rows (k + 1) ≡ call_lines b rows k ++ call_of b rows k
unfolding call_lines each
calls_more b rows k = rw (add-one k) refl

pub ruleset calls = (calls_none, calls_more)

-- ---- what stands at the place of a refusal

module _ (why : Refusal) (b : List ℕ) (place : ℕ) where
  pub place_short : why ≡ ShortBook → place_words (number_of why) b place ≡ size_line (length b)
  unfolding place_words number_of
  place_short e = ap (λ x. place_words (number_of x) b place) e

  pub place_count : why ≡ WrongCount → place_words (number_of why) b place ≡ entry_place b place
  unfolding place_words number_of
  place_count e = ap (λ x. place_words (number_of x) b place) e

  pub place_layout : why ≡ WrongLayout → place_words (number_of why) b place ≡ entry_place b place
  unfolding place_words number_of
  place_layout e = ap (λ x. place_words (number_of x) b place) e

  pub place_task : why ≡ WrongTask → place_words (number_of why) b place ≡ task_line place (task_in b place)
  unfolding place_words record_words number_of
  place_task e = ap (λ x. place_words (number_of x) b place) e

  pub place_lock : why ≡ WrongLock → place_words (number_of why) b place ≡ lock_line place (lock_in b place)
  unfolding place_words record_words number_of
  place_lock e = ap (λ x. place_words (number_of x) b place) e

  pub place_ceiling : why ≡ WrongCeiling → place_words (number_of why) b place ≡ lock_line place (lock_in b place)
  unfolding place_words record_words number_of
  place_ceiling e = ap (λ x. place_words (number_of x) b place) e

  pub place_event : why ≡ WrongEvent → place_words (number_of why) b place ≡ no_event_line (event_in b place)
  unfolding place_words record_words number_of
  place_event e = ap (λ x. place_words (number_of x) b place) e

  pub place_use : (why ≡ ShortBook → ⊥) → (why ≡ WrongCount → ⊥) → (why ≡ WrongLayout → ⊥) → (why ≡ WrongTask → ⊥) → (why ≡ WrongLock → ⊥) → (why ≡ WrongCeiling → ⊥)
      → (why ≡ WrongEvent → ⊥) → place_words (number_of why) b place ≡ use_line place (use_in b place)
  unfolding place_words record_words number_of
  place_use one two three four five seven eight =
      if_false (eqb (number_of why) 1) _ _ (ne_eqb _ 1 (other_number why ShortBook one))
      ∙ if_false (leb (number_of why) 3) _ _ (lt-leb _ 3 (past_three why one two three))
      ∙ if_false (eqb (number_of why) 4) _ _ (ne_eqb _ 4 (other_number why WrongTask four))
      ∙ if_false (eqb (number_of why) 5) _ _ (ne_eqb _ 5 (other_number why WrongLock five))
      ∙ if_false (eqb (number_of why) 7) _ _ (ne_eqb _ 7 (other_number why WrongCeiling seven))
      ∙ if_false (eqb (number_of why) 8) _ _ (ne_eqb _ 8 (other_number why WrongEvent eight))

pub ruleset places = (place_short, place_count, place_layout, place_task, place_lock, place_ceiling, place_event, place_use)

-- ---- a refusal of the book, and of an event

module _ (why : Refusal) where
  pub of_short_book : why ≡ ShortBook → of_book (number_of why) ≡ true
  unfolding of_book number_of
  of_short_book e = ap (λ x. of_book (number_of x)) e

  pub of_wrong_count : why ≡ WrongCount → of_book (number_of why) ≡ true
  unfolding of_book number_of
  of_wrong_count e = ap (λ x. of_book (number_of x)) e

  pub of_wrong_layout : why ≡ WrongLayout → of_book (number_of why) ≡ true
  unfolding of_book number_of
  of_wrong_layout e = ap (λ x. of_book (number_of x)) e

  pub of_wrong_task : why ≡ WrongTask → of_book (number_of why) ≡ true
  unfolding of_book number_of
  of_wrong_task e = ap (λ x. of_book (number_of x)) e

  pub of_wrong_lock : why ≡ WrongLock → of_book (number_of why) ≡ true
  unfolding of_book number_of
  of_wrong_lock e = ap (λ x. of_book (number_of x)) e

  pub of_wrong_use : why ≡ WrongUse → of_book (number_of why) ≡ true
  unfolding of_book number_of
  of_wrong_use e = ap (λ x. of_book (number_of x)) e

  pub of_wrong_ceiling : why ≡ WrongCeiling → of_book (number_of why) ≡ true
  unfolding of_book number_of
  of_wrong_ceiling e = ap (λ x. of_book (number_of x)) e

  pub of_wrong_event : why ≡ WrongEvent → of_book (number_of why) ≡ true
  unfolding of_book number_of
  of_wrong_event e = ap (λ x. of_book (number_of x)) e

  pub of_short_rows : why ≡ ShortRows → of_book (number_of why) ≡ true
  unfolding of_book number_of
  of_short_rows e = ap (λ x. of_book (number_of x)) e

  pub of_above_maximum : why ≡ AboveMaximum → of_book (number_of why) ≡ true
  unfolding of_book number_of
  of_above_maximum e = ap (λ x. of_book (number_of x)) e

  pub of_event : (why ≡ ShortBook → ⊥) → (why ≡ WrongCount → ⊥) → (why ≡ WrongLayout → ⊥) → (why ≡ WrongTask → ⊥) → (why ≡ WrongLock → ⊥)
      → (why ≡ WrongUse → ⊥) → (why ≡ WrongCeiling → ⊥) → (why ≡ WrongEvent → ⊥) → (why ≡ ShortRows → ⊥) → (why ≡ AboveMaximum → ⊥)
      → of_book (number_of why) ≡ false
  unfolding of_book number_of
  of_event one two three four five six seven eight nine last =
      ap (λ x. x || eqb (number_of why) 24) (lt-leb (number_of why) 9 (omega (
        arith,
        (numbered why).0,
        other_number why ShortBook one,
        other_number why WrongCount two,
        other_number why WrongLayout three,
        other_number why WrongTask four,
        other_number why WrongLock five,
        other_number why WrongUse six,
        other_number why WrongCeiling seven,
        other_number why WrongEvent eight,
        other_number why ShortRows nine,
      )))
      ∙ ne_eqb (number_of why) 24 (other_number why AboveMaximum last)

pub ruleset book_refusals = (of_short_book, of_wrong_count, of_wrong_layout, of_wrong_task, of_wrong_lock, of_wrong_use, of_wrong_ceiling, of_wrong_event, of_short_rows, of_above_maximum)

module _ (b : List ℕ) (plan : Plan) (s : State) (why : Refusal) (place : ℕ) where
  pub refused_book : of_book (number_of why) ≡ true → refused_words b plan s why place ≡ book_words b why place
  unfolding refused_words
  refused_book e = if_true (of_book (number_of why)) _ _ e

  pub refused_event : of_book (number_of why) ≡ false → refused_words b plan s why place ≡ stop_words b plan s why
  unfolding refused_words
  refused_event e = if_false (of_book (number_of why)) _ _ e

pub ruleset refusals = (refused_book, refused_event)

-- ---- the whole

pub explained_so : (p r : Page ℕ) (pr : Protocol) (b rows : List ℕ) (s : Replayed) → r ≡ typed p (explained_as b rows s.plan s.state s.verdict)
    → ran_as s rows ≡ ran_of pr b → s.plan ≡ (checked_of b (length (replicate {A = ℕ} row_space 0))).plan
    → r ≡ typed p (explained_of pr b)
unfolding explained_of
explained_so p r pr b rows s h e f =
    h ∙ ap (λ x. typed p (explained_as b x.rows s.plan x.state x.verdict)) e
    ∙ ap (λ x. typed p (explained_as b (ran_of pr b).rows x (ran_of pr b).state (ran_of pr b).verdict))
    (f ∙ ap (λ n. (checked_of b n).plan) (length-replicate {A = ℕ} row_space 0))
