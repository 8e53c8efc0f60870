-- A book that is longer than the largest one is refused for its front alone, as it is for the whole of it. Assumes nothing.
use Rattle.std.specs.Prelude.{if◌then◌else◌}
use mathlib.Core.Path.{◌≡◌, refl, sym, ◌∙◌, ap}
use mathlib.Core.Logic.{⊎_elim}
use mathlib.Core.Bool.{true, false, not}
use mathlib.Core.List.{List}
use Prim.Native.Nat.{ℕ, zero, suc, ◌+◌, ◌*◌, ◌≤◌, ◌<◌}
use native.Mathlib.Omega.{arith}
use lib.Dec.{eqb, ltb}
use lib.ListN.{length, take}
use lib.Seq.{get_or-take, length-take-le}
use borrow.Author.Tests.{lt-ltb, le-ltb, ltb-false, ne_eqb}
use Rattle.rules.specs.Numbers.Capacity.{max_tasks, max_locks, max_uses, max_events}
use Rattle.rules.specs.Numbers.Verdict.{refused_at}
use Rattle.rules.specs.Numbers.Place.{at, first_from}
use Rattle.rules.specs.Books.Plan.{most, count_fault}
use Rattle.rules.specs.Books.Book.{contents, kind_at, count_at, offset_at, size_of, body_at, layout_fault, contents_checks, check_of, largest_book}
use Rattle.rules.specs.declared.refusal.Refusal.{Refusal}
use Rattle.rules.specs.declared.refusal.Refusal.TheVariants.{WrongCount, WrongLayout}
use Rattle.rules.proofs.Numbers.Choice.{if_true, if_false, by_test, or_false, lt_or_le}
use Rattle.rules.proofs.Numbers.Place.{first_same, first_none, first_some}
use Rattle.rules.proofs.Numbers.Checks.{check_finds, check_passes, one_passes}

-- ---- what the contents alone decide

-- of a book that is longer than the largest: counts out of range, else a layout that is wrong at its end if nowhere before
module _ (b : List ℕ) (long : largest_book < length b) where
  abbrev counted : ℕ
  counted = first_from (λ e. count_fault e (count_at b e)) 0 4

  abbrev laid : ℕ
  laid = first_from (layout_fault b) 0 5

  in_range : 4 ≤ counted → body_at b 4 ≤ largest_book
  unfolding count_fault most body_at size_of
  in_range h =
      let none : (e : ℕ) → e < 4 → count_fault e (count_at b e) ≡ false = λ e l. first_none (λ e. count_fault e (count_at b e)) 0 4 (omega arith) e (omega arith)
      (omega arith) in
      let t : count_at b 0 ≤ max_tasks = ltb-false max_tasks (count_at b 0) (or_false (eqb (count_at b 0) 0) (ltb max_tasks (count_at b 0))
      (none 0 (omega arith))).1 in
      let l : count_at b 1 ≤ max_locks = ltb-false max_locks (count_at b 1) (none 1 (omega arith)) in
      let u : count_at b 2 ≤ max_uses = ltb-false max_uses (count_at b 2) (none 2 (omega arith)) in
      let e : count_at b 3 ≤ max_events = ltb-false max_events (count_at b 3) (none 3 (omega arith)) in
      omega arith

  wrong_end : 4 ≤ counted → layout_fault b 4 ≡ true
  unfolding layout_fault
  wrong_end h = ap not (ne_eqb (body_at b 4) (length b) (λ e. omega (arith, in_range h)))

  refused_as_lem : (room : ℕ) → check_of b room ≡ (if ltb counted 4 then refused_at WrongCount (1 + counted) else refused_at WrongLayout (1 + laid))
  unfolding check_of contents_checks
  refused_as_lem room =
      check_passes _ _ 1 (one_passes (ltb (length b) contents) (le-ltb (length b) contents (omega arith))) (omega arith)
      ∙ ⊎_elim
      (λ (l : counted < 4). check_finds _ _ counted refl l ∙ sym (if_true (ltb counted 4) _ _ (lt-ltb counted 4 l)))
      (λ (l : 4 ≤ counted). check_passes _ _ counted refl l ∙ check_finds _ _ laid refl (first_some (layout_fault b) 5 4 (omega arith) (wrong_end l)).0
      ∙ sym (if_false (ltb counted 4) _ _ (le-ltb counted 4 l)))
      (lt_or_le counted 4)

  pub long_refused : (room : ℕ) → (why : Refusal) × (place : ℕ) × (check_of b room ≡ refused_at why place)
  long_refused room = by_test (ltb counted 4)
      (λ l. (WrongCount, 1 + counted, rw l at (refused_as_lem room)))
      (λ l. (WrongLayout, 1 + laid, rw l at (refused_as_lem room)))

-- ---- the front of a book has its contents

module _ (b : List ℕ) (n : ℕ) (long : n ≤ length b) (enough : largest_book < n) where
  abbrev front : List ℕ
  front = take n b

  byte : (i : ℕ) → i < 32 → at front i ≡ at b i
  byte i h = get_or-take n b i 0 (omega arith)

  count_same : (e : ℕ) → e < 4 → count_at front e ≡ count_at b e
  count_same e h = rw (byte (e * 8 + 2) (omega arith), byte (e * 8 + 2 + 1) (omega arith))

  kind_same : (e : ℕ) → e < 4 → kind_at front e ≡ kind_at b e
  kind_same e h = rw (byte (e * 8) (omega arith), byte (e * 8 + 1) (omega arith))

  offset_same : (e : ℕ) → e < 4 → offset_at front e ≡ offset_at b e
  offset_same e h = rw (
    byte (e * 8 + 4) (omega arith),
    byte (e * 8 + 4 + 1) (omega arith),
    byte (e * 8 + 4 + 2) (omega arith),
    byte (e * 8 + 4 + 2 + 1) (omega arith),
  )

  body_same : (e : ℕ) → e ≤ 4 → body_at front e ≡ body_at b e
  unfolding body_at
  body_same zero h = refl
  body_same (suc e) h = rw (body_same e (omega arith), count_same e (omega arith))

  sized : length front ≡ n
  sized = length-take-le n b long

  layout_same : (e : ℕ) → e < 4 → layout_fault front e ≡ layout_fault b e
  unfolding layout_fault
  layout_same e h = rw (kind_same e h, offset_same e h, body_same e (omega arith))
      (if_true (ltb e 4) _ _ (lt-ltb e 4 h) ∙ sym (if_true (ltb e 4) _ _ (lt-ltb e 4 h)))

  counted_same : counted front (omega (arith, sized)) ≡ counted b (omega arith)
  counted_same = first_same _ _ 0 4 (λ e a l. ap (count_fault e) (count_same e (omega arith)))

  laid_same : 4 ≤ counted b (omega arith) → laid front (omega (arith, sized)) ≡ laid b (omega arith)
  laid_same h = first_same (layout_fault front) (layout_fault b) 0 5 (λ e a l. ⊎_elim
      (λ (q : e < 4). layout_same e q)
      (λ (q : 4 ≤ e).
      let z : e ≡ 4 = omega arith in
      rw z (wrong_end front (omega (arith, sized)) (rw counted_same h) ∙ sym (wrong_end b (omega arith) h)))
      (lt_or_le e 4))

  -- what is refused of the front is what is refused of the whole
  pub cut_same : (room : ℕ) → check_of front room ≡ check_of b room
  cut_same room = refused_as_lem front (omega (arith, sized)) room ∙ by_test (ltb (counted b (omega arith)) 4)
      (λ l. rw (counted_same, l))
      (λ l. rw (counted_same, l, laid_same (ltb-false (counted b (omega arith)) 4 l)))
      ∙ sym (refused_as_lem b (omega arith) room)
