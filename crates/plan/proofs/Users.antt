-- 7 and 24 as the code asks them: the locks that two tasks may take are those with two users or more, and a user's maximum is below the ceiling where the
-- least one is. Assumes nothing.
use Rattle.std.specs.Prelude.{if◌then◌else◌}
use mathlib.Core.Path.{◌≡◌, refl, sym, ◌∙◌, ap, ap₂}
use mathlib.Core.Bool.{Bool, true, false, not, ◌&&◌, ◌||◌}
use mathlib.Core.List.{List}
use mathlib.Core.Logic.{⊎_elim}
use Prim.Native.Nat.{ℕ, zero, suc, ◌+◌, ◌-◌, ◌≤◌, ◌<◌, max}
use native.Mathlib.Numerals.{add-one}
use native.Mathlib.Omega.{arith}
use lib.Bits.{bit_and, bit_or}
use lib.Dec.{eqb, leb, ltb}
use borrow.Author.Tests.{le-leb, lt-leb, lt-ltb, le-ltb}
use Rattle.rules.specs.Numbers.Mask.{has_bit}
use Rattle.rules.specs.Numbers.Place.{at, count}
use Rattle.rules.specs.Books.Plan.{declares, users, users_base, users_fault, ceiling_fault, maximum_fault}
use Rattle.rules.specs.declared.plan.Plan.{Plan}
use Rattle.rules.proofs.Numbers.Choice.{by_test, lt_or_le}
use Rattle.rules.proofs.Numbers.Mask.{bit_none, and_has, or_has}
use Rattle.rules.proofs.Numbers.Place.{AskedSoFar, asked_start, asked_next}
use Rattle.plan.specs.Shared.{SharedLocks, users_by, used_by, shared_by}

-- ---- the locks that two tasks may take

-- one task more, who is a user or not
one_more : (c : ℕ) (t : Bool) → (leb 1 c || t) ≡ leb 1 (if t then c + 1 else c)
one_more c true = by_test (leb 1 c) (λ e. rw e (sym (le-leb 1 (c + 1) (omega arith)))) (λ e. rw e (sym (le-leb 1 (c + 1) (omega arith))))
one_more c false = by_test (leb 1 c) (λ e. rw e) (λ e. rw e)

two_more : (c : ℕ) (t : Bool) → (leb 2 c || (leb 1 c && t)) ≡ leb 2 (if t then c + 1 else c)
two_more c true = ⊎_elim
    (λ (q : c < 1). rw (lt-leb 2 c (omega arith), lt-leb 1 c q, lt-leb 2 (c + 1) (omega arith)))
    (λ (q : 1 ≤ c). rw (le-leb 1 c q, le-leb 2 (c + 1) (omega arith)) (by_test (leb 2 c) (λ e. rw e) (λ e. rw e)))
    (lt_or_le c 1)
two_more c false = by_test (leb 2 c) (λ e. rw e) (λ e. rw e (by_test (leb 1 c) (λ d. rw d) (λ d. rw d)))

module _ (uses : List ℕ) (l : ℕ) where
  used_one : (n : ℕ) → has_bit (used_by n uses) l ≡ leb 1 (users_by n uses l)
  unfolding used_by users_by count
  used_one zero = bit_none l
  used_one (suc k) =
      or_has (used_by k uses) (at uses k) l ∙ ap (λ t. t || has_bit (at uses k) l) (used_one k) ∙ one_more (users_by k uses l) (has_bit (at uses k) l)

  -- lock l is in the set of the walk exactly where two tasks or more may take it
  pub shared_two : (n : ℕ) → has_bit (shared_by n uses) l ≡ leb 2 (users_by n uses l)
  unfolding shared_by users_by count
  shared_two zero = bit_none l
  shared_two (suc k) =
      or_has (shared_by k uses) (bit_and (used_by k uses) (at uses k)) l
      ∙ ap₂ ◌||◌ (shared_two k) (and_has (used_by k uses) (at uses k) l ∙ ap (λ t. t && has_bit (at uses k) l) (used_one k))
      ∙ two_more (users_by k uses l) (has_bit (at uses k) l)

module _ (p : Plan) where
  -- of a plan's own tasks: its users, and its shared locks
  pub users_same : (l : ℕ) → users_by p.tasks p.uses l ≡ users p l
  unfolding users_by users declares
  users_same l = refl

  pub shared_locks_by : SharedLocks p (shared_by p.tasks p.uses)
  shared_locks_by l = shared_two p.uses l p.tasks ∙ ap (leb 2) (users_same l)

  -- and any other set of them has the same locks
  pub shared_same : (set : ℕ) → SharedLocks p set → (l : ℕ) → has_bit set l ≡ has_bit (shared_by p.tasks p.uses) l
  shared_same set s l = s l ∙ sym (shared_locks_by l)

  -- of the first i tasks one may take the locks of the set `used`, and two those of `shared`
  abbrev pub SharedSoFar : (i used shared : ℕ) → Type 0
  SharedSoFar i used shared = (used ≡ used_by i p.uses) × (shared ≡ shared_by i p.uses)

  pub shared_start : SharedSoFar 0 0 0
  unfolding used_by shared_by
  shared_start = (refl, refl)

  -- set is what task i may take
  pub shared_next : (i used shared set : ℕ) → SharedSoFar i used shared → set ≡ at p.uses i
      → SharedSoFar (i + 1) (bit_or used set) (bit_or shared (bit_and used set))
  unfolding used_by shared_by
  shared_next i used shared set (u, s) e = rw (add-one i) (ap₂ bit_or u e, ap₂ bit_or s (ap₂ bit_and u e))

  pub shared_ends : (i used shared : ℕ) → SharedSoFar i used shared → i ≡ p.tasks → shared ≡ shared_by p.tasks p.uses
  shared_ends i used shared (u, s) e = s ∙ ap (λ k. shared_by k p.uses) e

-- fewer than two are not two
pub not_two : (c : ℕ) → not (leb 2 c) ≡ ltb c 2
not_two c = ⊎_elim (λ (q : c < 2). rw (lt-leb 2 c q, lt-ltb c 2 q)) (λ (q : 2 ≤ c). rw (le-leb 2 c q, le-ltb c 2 q)) (lt_or_le c 2)

pub ceiling_parts : (p : Plan) (shared l : ℕ) → has_bit shared l ≡ leb 2 (users p l)
    → ceiling_fault p l ≡ (not (has_bit shared l) || not (eqb (at p.ceiling l) (users_base p l)))
unfolding ceiling_fault users_fault
ceiling_parts p shared l s = rw (s, not_two (users p l))

-- ---- 24: the users' least maximum is `gap` below 255

above_either : (k a b : ℕ) → (ltb k a || ltb k b) ≡ ltb k (max a b)
above_either k a b = ⊎_elim
    (λ (q : k < max a b). ⊎_elim
    (λ (g : k < a). rw (lt-ltb k a g, lt-ltb k (max a b) q))
    (λ (g : a ≤ k). let h : k < b = omega arith in rw (le-ltb k a g, lt-ltb k b h, lt-ltb k (max a b) q)) (lt_or_le k a))
    (λ (q : max a b ≤ k). rw (le-ltb k a (omega arith), le-ltb k b (omega arith), le-ltb k (max a b) q))
    (lt_or_le k (max a b))

-- of one task: b says that it is a user, and m is its maximum
gap_here : (b : Bool) (m c : ℕ) → m < 256 → c < 256 → ltb (255 - c) (if b then 255 - m else 0) ≡ (b && maximum_fault m c)
unfolding maximum_fault
gap_here true m c h k = ⊎_elim
    (λ (q : m < c). rw (lt-ltb (255 - c) (255 - m) (omega arith), lt-ltb m c q))
    (λ (q : c ≤ m). rw (le-ltb (255 - c) (255 - m) (omega arith), le-ltb m c q))
    (lt_or_le m c)
gap_here false m c h k = le-ltb (255 - c) 0 (omega arith)

-- what is asked of the greatest so far is asked of each; c is the ceiling of lock l
module _ (p : Plan) (l c : ℕ) where
  abbrev pub above : ℕ → Bool
  above x = declares p x l && maximum_fault (at p.maximum x) c

  pub gap_start : (n : ℕ) → AskedSoFar above n 0 (ltb (255 - c) 0)
  gap_start n = rw (le-ltb (255 - c) 0 (omega arith)) (asked_start above n)

  pub gap_next : (n i gap g d : ℕ) → AskedSoFar above n i (ltb (255 - c) gap) → i < n → c < 256 → at p.maximum i < 256
      → g ≡ (if has_bit (at p.uses i) l then 255 - at p.maximum i else 0) → d ≡ max gap g → AskedSoFar above n (i + 1) (ltb (255 - c) d)
  unfolding declares
  gap_next n i gap g d e h small here q m =
      let k : ltb (255 - c) g ≡ above i = ap (ltb (255 - c)) q ∙ gap_here (has_bit (at p.uses i) l) (at p.maximum i) c here small in
      rw (m, ← above_either (255 - c) gap g) (asked_next above n i (ltb (255 - c) gap) (ltb (255 - c) g) e h k)
