-- Laws of a row: what is pushed is the newest, and the old row stands under it. Assumes nothing.
use Rattle.std.specs.Prelude.{if◌then◌else◌}
use mathlib.Core.Path.{◌≡◌, refl, sym, ◌∙◌, ap, ap₂}
use mathlib.Core.Logic.{◌⊎◌, inl, inr, ⊎_elim}
use mathlib.Core.Bool.{true, false, ◌||◌}
use Prim.Native.Nat.{ℕ, zero, suc, ◌+◌, ◌^◌, ◌≤◌, ◌<◌, max}
use native.Mathlib.Omega.{arith}
use lib.Dec.{eqb}
use borrow.Author.Tests.{eqb-true, eq-eqb}
use Rattle.rules.specs.Numbers.Row.{newest, under, pushed, has, priority, saves}
use Rattle.rules.proofs.Numbers.Choice.{by_test, untrue, or_true}

pub newest_pushed : (row x : ℕ) → x < 256 → newest (pushed row x) ≡ x
newest_pushed row x h = omega arith

pub under_pushed : (row x : ℕ) → x < 256 → under (pushed row x) ≡ row
under_pushed row x h = omega arith

-- ---- membership

pub has_none : (row l : ℕ) → has row 0 l ≡ false
unfolding has
has_none row l = refl

pub has_suc : (row k l : ℕ) → has row (suc k) l ≡ (eqb (newest row) l || has (under row) k l)
unfolding has
has_suc row k l = refl

pub has_newest : (row k : ℕ) → has row (suc k) (newest row) ≡ true
unfolding has
has_newest row k = rw (eq-eqb (newest row) (newest row) refl)

pub has_under : (row k l : ℕ) → has (under row) k l ≡ true → has row (suc k) l ≡ true
unfolding has
has_under row k l h = by_test (eqb (newest row) l) (λ e. rw e) (λ e. rw e h)

pub has_cases : (row k l : ℕ) → has row (suc k) l ≡ true → (newest row ≡ l) ⊎ (has (under row) k l ≡ true)
unfolding has
has_cases row k l h = ⊎_elim (λ e. inl (eqb-true (newest row) l e)) (λ e. inr e) (or_true (eqb (newest row) l) (has (under row) k l) h)

pub has_pushed : (row k x l : ℕ) → x < 256 → has (pushed row x) (suc k) l ≡ (eqb x l || has row k l)
has_pushed row k x l h = has_suc (pushed row x) k l ∙ ap₂ (λ a b. eqb a l || has b k l) (newest_pushed row x h) (under_pushed row x h)

-- ---- a row of k locks takes k places

pub places_pushed : (row k x : ℕ) → x < 256 → row < 256 ^ k → pushed row x < 256 ^ suc k
places_pushed row k x h b = omega arith

pub places_under : (row k : ℕ) → row < 256 ^ suc k → under row < 256 ^ k
places_under row k b = omega arith

-- ---- how often a lock stands in a row

-- among the k newest of the row
unfoldable pub copies : ℕ → ℕ → ℕ → ℕ
copies row zero l = 0
copies row (suc k) l = (if eqb (newest row) l then 1 else 0) + copies (under row) k l

pub copies_none : (row l : ℕ) → copies row 0 l ≡ 0
unfolding copies
copies_none row l = refl

pub copies_suc : (row k l : ℕ) → copies row (suc k) l ≡ (if eqb (newest row) l then 1 else 0) + copies (under row) k l
unfolding copies
copies_suc row k l = refl

pub copies_pushed : (row k x l : ℕ) → x < 256 → copies (pushed row x) (suc k) l ≡ (if eqb x l then 1 else 0) + copies row k l
copies_pushed row k x l h =
    copies_suc (pushed row x) k l ∙ ap₂ (λ a b. (if eqb a l then 1 else 0) + copies b k l) (newest_pushed row x h) (under_pushed row x h)

-- a lock is among them exactly where it stands there at least once
pub has_copies : (row k l : ℕ) → has row k l ≡ true → 0 < copies row k l
unfolding copies has
has_copies row zero l h = untrue (sym h)
has_copies row (suc k) l h = by_test (eqb (newest row) l) (λ e. rw e (omega arith)) (λ e. rw e (omega (arith, has_copies (under row) k l (rw e at h))))

pub copies_has : (row k l : ℕ) → 0 < copies row k l → has row k l ≡ true
unfolding copies has
copies_has row zero l h = absurd (omega arith)
copies_has row (suc k) l h = by_test (eqb (newest row) l) (λ e. rw e) (λ e. rw e (copies_has (under row) k l (omega (arith, rw e at h))))

-- ---- the priority of a row

module _ (ceiling : ℕ → ℕ) (base : ℕ) where
  pub priority_none : (row : ℕ) → priority ceiling base row 0 ≡ base
  unfolding priority
  priority_none row = refl

  pub priority_suc : (row k : ℕ) → priority ceiling base row (suc k) ≡ max (ceiling (newest row)) (priority ceiling base (under row) k)
  unfolding priority
  priority_suc row k = refl

  pub priority_pushed : (row k x : ℕ) → x < 256 → priority ceiling base (pushed row x) (suc k) ≡ max (ceiling x) (priority ceiling base row k)
  priority_pushed row k x h = priority_suc (pushed row x) k ∙ ap₂ (λ a b. max (ceiling a) (priority ceiling base b k)) (newest_pushed row x h)
      (under_pushed row x h)

  pub priority_base : (row k : ℕ) → base ≤ priority ceiling base row k
  unfolding priority
  priority_base row zero = omega arith
  priority_base row (suc k) = omega (arith, priority_base (under row) k)

  -- an open lock's ceiling is at most the priority
  pub priority_has : (row k l : ℕ) → has row k l ≡ true → ceiling l ≤ priority ceiling base row k
  unfolding priority
  priority_has row zero l h = untrue (sym h ∙ has_none row l)
  priority_has row (suc k) l h = ⊎_elim (λ e. omega (arith, ap ceiling e)) (λ e. omega (arith, priority_has (under row) k l e)) (has_cases row k l h)

  -- and nothing but the base and these ceilings makes it
  pub priority_below : (v row k : ℕ) → base < v → ((l : ℕ) → has row k l ≡ true → ceiling l < v) → priority ceiling base row k < v
  unfolding priority
  priority_below v row zero b c = b
  priority_below v row (suc k) b c =
      omega (arith, c (newest row) (has_newest row k), priority_below v (under row) k b (λ l h. c l (has_under row k l h)))

  -- ---- the saved words

  module _ (small : base < 256) (smalls : (l : ℕ) → ceiling l < 256) where
    pub saves_newest : (row k : ℕ) → newest (saves ceiling base row (suc k)) ≡ priority ceiling base (under row) k
    unfolding saves
    saves_newest row k = newest_pushed (saves ceiling base (under row) k) (priority ceiling base (under row) k)
        (priority_below 256 (under row) k small (λ l _. smalls l))

    pub saves_under : (row k : ℕ) → under (saves ceiling base row (suc k)) ≡ saves ceiling base (under row) k
    unfolding saves
    saves_under row k = under_pushed (saves ceiling base (under row) k) (priority ceiling base (under row) k)
        (priority_below 256 (under row) k small (λ l _. smalls l))

  pub saves_pushed : (row k x : ℕ) → x < 256 → saves ceiling base (pushed row x) (suc k) ≡ pushed (saves ceiling base row k) (priority ceiling base row k)
  unfolding saves
  saves_pushed row k x h = ap (λ r. pushed (saves ceiling base r k) (priority ceiling base r k)) (under_pushed row x h)

  pub saves_none : (row : ℕ) → saves ceiling base row 0 ≡ 0
  unfolding saves
  saves_none row = refl

  pub saves_places : (row k : ℕ) → base < 256 → ((l : ℕ) → ceiling l < 256) → saves ceiling base row k < 256 ^ k
  unfolding saves
  saves_places row zero b c = omega arith
  saves_places row (suc k) b c =
      places_pushed (saves ceiling base (under row) k) k (priority ceiling base (under row) k) (priority_below 256 (under row) k b (λ l _. c l))
      (saves_places (under row) k b c)
