-- Laws of what is asked of the places below n: what each means, and the turns of a loop that works it out from place 0 up. Assumes nothing.
use Rattle.std.specs.Prelude.{if◌then◌else◌}
use mathlib.Core.Path.{◌≡◌, refl, sym, ◌∙◌, ap, ap₂, subst}
use mathlib.Core.Logic.{⊎_elim}
use mathlib.Core.Bool.{Bool, true, false, ◌||◌}
use mathlib.Core.List.{List, [], ◌∷◌}
use Prim.Native.Nat.{ℕ, zero, suc, ◌+◌, ◌-◌, ◌≤◌, ◌<◌, min, max}
use native.Mathlib.Numerals.{add-one}
use native.Mathlib.Nat.{le_antisymm, eq-or-lt_of_le, le_of_suc-le-suc, not-suc-le-zero}
use native.Mathlib.Omega.{arith}
use lib.Dec.{eqb, ltb}
use lib.ListN.{length, get_or, set, take, drop, length-set, replicate, length-replicate}
use lib.Seq.{set-get_or, get_or-set_same, get_or-set_other, get_or-take, length-take-le, ext_get_or}
use borrow.Author.Tests.{eqb-true, eq-eqb, lt-ltb, le-ltb}
use Rattle.rules.specs.Numbers.Place.{at, every, any, count, sum, sum_after, greatest, first_from, from, tabulate, renewed, zeros}
use Rattle.rules.proofs.Numbers.Choice.{if_true, if_false, by_test, untrue, and_true, or_false, at_or, lt_or_le}

-- below n + 1: n itself, or below n
pub below : (P : ℕ → Type 0) (n : ℕ) → ((y : ℕ) → y < n → P y) → P n → (y : ℕ) → y < suc n → P y
below P n h e y l = ⊎_elim (λ q. subst P (sym q) e) (λ q. h y q) (eq-or-lt_of_le (le_of_suc-le-suc l))

module _ (f : ℕ → Bool) where
  -- ---- every

  pub every_true : (n : ℕ) → every f n ≡ true → (x : ℕ) → x < n → f x ≡ true
  unfolding every
  every_true zero e = λ x l. absurd (not-suc-le-zero l)
  every_true (suc k) e = let (a, b) = and_true (every f k) (f k) e in below (λ x. f x ≡ true) k (every_true k a) b

  pub true_every : (n : ℕ) → ((x : ℕ) → x < n → f x ≡ true) → every f n ≡ true
  unfolding every
  true_every zero h = refl
  true_every (suc k) h = rw (true_every k (λ x l. h x (omega arith)), h k (omega arith))

  -- a loop that has found f at the first i of n places
  abbrev pub AllSoFar : ℕ → ℕ → Type 0
  AllSoFar n i = (i ≤ n) × (every f i ≡ true)

  pub every_start : (n : ℕ) → AllSoFar n 0
  unfolding every
  every_start n = (omega arith, refl)

  pub every_next : (n i : ℕ) → AllSoFar n i → i < n → f i ≡ true → AllSoFar n (i + 1)
  unfolding every
  every_next n i e l h = (omega arith, rw (add-one i) (rw (e.1, h)))

  pub every_fails : (n i : ℕ) → i < n → f i ≡ false → false ≡ every f n
  every_fails n i l h = by_test (every f n) (λ e. untrue (sym (every_true n e i l) ∙ h)) (λ e. sym e)

  pub every_ends : (n i : ℕ) → AllSoFar n i → n ≤ i → true ≡ every f n
  every_ends n i e b = let q : i ≡ n = omega arith in sym e.1 ∙ ap (every f) q

  -- ---- any

  pub any_false : (n : ℕ) → any f n ≡ false → (x : ℕ) → x < n → f x ≡ false
  unfolding any
  any_false zero e = λ x l. absurd (not-suc-le-zero l)
  any_false (suc k) e = let (a, b) = or_false (any f k) (f k) e in below (λ x. f x ≡ false) k (any_false k a) b

  pub false_any : (n : ℕ) → ((x : ℕ) → x < n → f x ≡ false) → any f n ≡ false
  unfolding any
  false_any zero h = refl
  false_any (suc k) h = rw (false_any k (λ x l. h x (omega arith)), h k (omega arith))

  pub any_some : (n : ℕ) → any f n ≡ true → (x : ℕ) × (x < n) × (f x ≡ true)
  unfolding any
  any_some zero e = untrue (sym e)
  any_some (suc k) e =
      by_test (any f k) (λ a. let (x, l, h) = any_some k a in (x, omega arith, h)) (λ a. (k, omega arith, rw a at e))

  pub some_any : (n x : ℕ) → x < n → f x ≡ true → any f n ≡ true
  some_any n x l h = by_test (any f n) (λ e. e) (λ e. untrue (sym h ∙ any_false n e x l))

  -- a loop that has found f at none of the first i of n places
  abbrev pub NoneSoFar : ℕ → ℕ → Type 0
  NoneSoFar n i = (i ≤ n) × (any f i ≡ false)

  pub any_start : (n : ℕ) → NoneSoFar n 0
  unfolding any
  any_start n = (omega arith, refl)

  pub any_next : (n i : ℕ) → NoneSoFar n i → i < n → f i ≡ false → NoneSoFar n (i + 1)
  unfolding any
  any_next n i e l h = (omega arith, rw (add-one i) (rw (e.1, h)))

  pub any_found : (n i : ℕ) → i < n → f i ≡ true → true ≡ any f n
  any_found n i l h = sym (some_any n i l h)

  pub any_ends : (n i : ℕ) → NoneSoFar n i → n ≤ i → false ≡ any f n
  any_ends n i e b = let q : i ≡ n = omega arith in sym e.1 ∙ ap (any f) q

  -- a loop that asks at every place: what it has found among the first i of n
  abbrev pub AskedSoFar : ℕ → ℕ → Bool → Type 0
  AskedSoFar n i found = (i ≤ n) × (found ≡ any f i)

  pub asked_start : (n : ℕ) → AskedSoFar n 0 false
  unfolding any
  asked_start n = (omega arith, refl)

  pub asked_next : (n i : ℕ) (found v : Bool) → AskedSoFar n i found → i < n → v ≡ f i → AskedSoFar n (i + 1) (found || v)
  unfolding any
  asked_next n i found v e l h = (omega arith, rw (add-one i) (ap₂ ◌||◌ e.1 h))

  pub asked_ends : (n i : ℕ) (found : Bool) → AskedSoFar n i found → n ≤ i → found ≡ any f n
  asked_ends n i found e b = let q : i ≡ n = omega arith in e.1 ∙ ap (any f) q

  -- where f holds at no place from k on, the places below k are enough
  pub any_clamped : (n k : ℕ) → ((x : ℕ) → k ≤ x → f x ≡ false) → any f (min n k) ≡ any f n
  any_clamped n k h = ⊎_elim
      (λ (q : n < k). let e : min n k ≡ n = omega arith in ap (any f) e)
      (λ (q : k ≤ n). let e : min n k ≡ k = omega arith in ap (any f) e ∙ by_test (any f n)
      (λ t. let (x, l, u) = any_some n t in some_any k x (⊎_elim (λ (b : x < k). b) (λ (b : k ≤ x). untrue (sym u ∙ h x b)) (lt_or_le x k)) u ∙ sym t)
      (λ t. false_any k (λ x l. any_false n t x (omega arith)) ∙ sym t))
      (lt_or_le n k)

  -- ---- count

  -- what holds at x below suc k and not at k holds below k
  lower : (k x : ℕ) → x < suc k → f x ≡ true → f k ≡ false → x < k
  lower k x l t e = ⊎_elim (λ (q : x < k). q) (λ (q : k ≤ x). let s : x ≡ k = omega arith in untrue (sym t ∙ ap f s ∙ e)) (lt_or_le x k)

  -- where one place or more is counted, f holds at some place, and the other way round
  pub count_one : (n : ℕ) → 1 ≤ count f n → (x : ℕ) × (x < n) × (f x ≡ true)
  unfolding count
  count_one zero h = absurd (omega arith)
  count_one (suc k) h = by_test (f k) (λ e. (k, omega arith, e))
      (λ e. let (x, l, t) = count_one k (rw (if_false (f k) (count f k + 1) (count f k) e) at h) in (x, omega arith, t))

  pub one_count : (n x : ℕ) → x < n → f x ≡ true → 1 ≤ count f n
  unfolding count
  one_count zero x l t = absurd (not-suc-le-zero l)
  one_count (suc k) x l t = by_test (f k) (λ e. rw (if_true (f k) (count f k + 1) (count f k) e) (omega arith))
      (λ e. rw (if_false (f k) (count f k + 1) (count f k) e) (one_count k x (lower k x l t e) t))

  -- where two or more are counted, it holds at two different places, and the other way round
  pub count_two : (n : ℕ) → 2 ≤ count f n → (x : ℕ) × (y : ℕ) × (x < y) × (y < n) × (f x ≡ true) × (f y ≡ true)
  unfolding count
  count_two zero h = absurd (omega arith)
  count_two (suc k) h = by_test (f k)
      (λ e. let (x, l, t) = count_one k (omega (arith, rw (if_true (f k) (count f k + 1) (count f k) e) at h)) in (x, k, l, omega arith, t, e))
      (λ e. let (x, y, l, m, t, u) = count_two k (rw (if_false (f k) (count f k + 1) (count f k) e) at h) in (x, y, l, omega arith, t, u))

  pub two_count : (n x y : ℕ) → x < y → y < n → f x ≡ true → f y ≡ true → 2 ≤ count f n
  unfolding count
  two_count zero x y l m t u = absurd (not-suc-le-zero m)
  two_count (suc k) x y l m t u = by_test (f k)
      (λ e. rw (if_true (f k) (count f k + 1) (count f k) e) (omega (arith, one_count k x (omega arith) t)))
      (λ e. rw (if_false (f k) (count f k + 1) (count f k) e) (two_count k x y l (lower k y m u e) t u))

  -- ---- the first place

  pub first_stop : (i left : ℕ) → f i ≡ true → first_from f i (suc left) ≡ i
  unfolding first_from
  first_stop i left h = if_true (f i) i (first_from f (suc i) left) h

  pub first_on : (i left : ℕ) → f i ≡ false → first_from f i (suc left) ≡ first_from f (suc i) left
  unfolding first_from
  first_on i left h = if_false (f i) i (first_from f (suc i) left) h

  -- what it means
  pub first_within : (i left : ℕ) → first_from f i left ≤ i + left
  unfolding first_from
  first_within i zero = omega arith
  first_within i (suc left) = by_test (f i) (λ e. rw (if_true (f i) i (first_from f (suc i) left) e) (omega arith))
      (λ e. rw (if_false (f i) i (first_from f (suc i) left) e) (omega (arith, first_within (suc i) left)))

  pub first_none : (i left : ℕ) → i + left ≤ first_from f i left → (x : ℕ) → i ≤ x → x < i + left → f x ≡ false
  unfolding first_from
  first_none i zero h x a b = absurd (omega arith)
  first_none i (suc left) h x a b = by_test (f i)
      (λ e. absurd (omega (arith, rw (if_true (f i) i (first_from f (suc i) left) e) at h)))
      (λ e. ⊎_elim (λ q. rw (← q) e)
      (λ l. first_none (suc i) left (omega (arith, rw (if_false (f i) i (first_from f (suc i) left) e) at h)) x l (omega arith)) (eq-or-lt_of_le a))

  pub first_hit : (i left : ℕ) → first_from f i left < i + left → f (first_from f i left) ≡ true
  unfolding first_from
  first_hit i zero h = absurd (omega arith)
  first_hit i (suc left) h = by_test (f i)
      (λ e. rw (if_true (f i) i (first_from f (suc i) left) e) e)
      (λ e. rw (if_false (f i) i (first_from f (suc i) left) e) (first_hit (suc i) left
      (omega (arith, rw (if_false (f i) i (first_from f (suc i) left) e) at h))))

  pub first_before : (i left : ℕ) (x : ℕ) → i ≤ x → x < first_from f i left → f x ≡ false
  unfolding first_from
  first_before i zero x a b = absurd (omega arith)
  first_before i (suc left) x a b = by_test (f i)
      (λ e. absurd (omega (arith, if_true (f i) i (first_from f (suc i) left) e)))
      (λ e. ⊎_elim (λ q. rw (← q) e) (λ l. first_before (suc i) left x l (omega (arith, if_false (f i) i (first_from f (suc i) left) e))) (eq-or-lt_of_le a))

  -- a place where f holds, while it holds at none before it, is the first
  pub first_is : (n i : ℕ) → i < n → f i ≡ true → ((j : ℕ) → j < i → f j ≡ false) → i ≡ first_from f 0 n
  first_is n i l h b = ⊎_elim
      (λ (q : i < first_from f 0 n). untrue (sym h ∙ first_before 0 n i (omega arith) q))
      (λ (q : first_from f 0 n ≤ i). ⊎_elim
      (λ (m : first_from f 0 n < i). untrue (sym (first_hit 0 n (omega arith)) ∙ b (first_from f 0 n) m))
      (λ (m : i ≤ first_from f 0 n). omega arith) (lt_or_le (first_from f 0 n) i))
      (lt_or_le i (first_from f 0 n))

  -- where f holds somewhere below n, it holds at the first place
  pub first_some : (n x : ℕ) → x < n → f x ≡ true → (first_from f 0 n < n) × (f (first_from f 0 n) ≡ true)
  first_some n x l h = ⊎_elim
      (λ (q : first_from f 0 n < n). (q, first_hit 0 n (omega arith)))
      (λ (q : n ≤ first_from f 0 n). untrue (sym h ∙ first_none 0 n (omega arith) x (omega arith) (omega arith)))
      (lt_or_le (first_from f 0 n) n)

  -- a loop that looks for it in n places, and has passed i of them by
  abbrev pub PassedSoFar : ℕ → ℕ → Type 0
  PassedSoFar n i = (i ≤ n) × (first_from f i (n - i) ≡ first_from f 0 n)

  pub passed_start : (n : ℕ) → PassedSoFar n 0
  passed_start n = let q : n - 0 ≡ n = omega arith in (omega arith, ap (first_from f 0) q)

  pub passed_next : (n i : ℕ) → PassedSoFar n i → i < n → f i ≡ false → PassedSoFar n (i + 1)
  passed_next n i e l h =
      let q : n - i ≡ suc (n - suc i) = omega arith in
      (omega arith, rw (add-one i) (sym (first_on i (n - suc i) h) ∙ ap (first_from f i) (sym q) ∙ e.1))

  pub passed_found : (n i : ℕ) → PassedSoFar n i → i < n → f i ≡ true → i ≡ first_from f 0 n
  passed_found n i e l h = let q : n - i ≡ suc (n - i - 1) = omega arith in sym (first_stop i (n - i - 1) h) ∙ ap (first_from f i) (sym q) ∙ e.1

  pub passed_ends : (n i : ℕ) → PassedSoFar n i → n ≤ i → i ≡ first_from f 0 n
  unfolding first_from
  passed_ends n i e l = let q : n - i ≡ 0 = omega arith in rw q at e.1

-- ---- the sum after a place

module _ (f : ℕ → ℕ) (i : ℕ) where
  pub after_none : (n : ℕ) → n ≤ suc i → sum_after i f n ≡ 0
  unfolding sum_after sum
  after_none zero h = refl
  after_none (suc k) h = omega (arith, after_none k (omega arith), if_false (ltb i k) (f k) 0 (le-ltb i k (omega arith)))

  pub after_more : (n : ℕ) → i < n → sum_after i f (suc n) ≡ sum_after i f n + f n
  unfolding sum_after sum
  after_more n h = ap (λ v. sum_after i f n + v) (if_true (ltb i n) (f n) 0 (lt-ltb i n h))

-- ---- greatest

module _ (f : ℕ → ℕ) where
  pub greatest_all : (n x : ℕ) → x < n → f x ≤ greatest f n
  unfolding greatest
  greatest_all zero = λ x l. absurd (not-suc-le-zero l)
  greatest_all (suc k) = below (λ x. f x ≤ max (greatest f k) (f k)) k (λ x l. omega (arith, greatest_all k x l)) (omega arith)

  pub greatest_least : (v n : ℕ) → ((x : ℕ) → x < n → f x ≤ v) → greatest f n ≤ v
  unfolding greatest
  greatest_least v zero h = omega arith
  greatest_least v (suc k) h = omega (arith, h k (omega arith), greatest_least v k (λ x l. h x (omega arith)))

  pub greatest_some : (n : ℕ) → 0 < greatest f n → (x : ℕ) × (x < n) × (f x ≡ greatest f n)
  unfolding greatest
  greatest_some zero h = absurd (not-suc-le-zero h)
  greatest_some (suc k) h = ⊎_elim
      (λ (g : greatest f k < f k). (k, omega arith, omega arith))
      (λ (g : f k ≤ greatest f k). let (x, l, e) = greatest_some k (omega arith) in (x, omega arith, omega arith))
      (lt_or_le (greatest f k) (f k))

  -- a loop that has looked at the first i of n places
  abbrev pub GreatestSoFar : ℕ → ℕ → ℕ → Type 0
  GreatestSoFar n i g = (i ≤ n) × (g ≡ greatest f i)

  pub greatest_start : (n : ℕ) → GreatestSoFar n 0 0
  unfolding greatest
  greatest_start n = (omega arith, refl)

  pub greatest_next : (n i g v d : ℕ) → GreatestSoFar n i g → i < n → v ≡ f i → d ≡ max g v → GreatestSoFar n (i + 1) d
  unfolding greatest
  greatest_next n i g v d e l h q = (omega arith, rw (add-one i) (omega arith))

  pub greatest_ends : (n i g : ℕ) → GreatestSoFar n i g → n ≤ i → g ≡ greatest f n
  greatest_ends n i g e b = let q : i ≡ n = omega arith in e.1 ∙ ap (greatest f) q

-- where f is 0 from k on, the places below k are enough
pub greatest_clamped : (f : ℕ → ℕ) (n k : ℕ) → ((x : ℕ) → k ≤ x → f x ≡ 0) → greatest f (min n k) ≡ greatest f n
greatest_clamped f n k h = ⊎_elim
    (λ (q : n < k). let e : min n k ≡ n = omega arith in ap (greatest f) e)
    (λ (q : k ≤ n). let e : min n k ≡ k = omega arith in ap (greatest f) e ∙ le_antisymm
    (greatest_least f (greatest f n) k (λ x l. greatest_all f n x (omega arith)))
    (greatest_least f (greatest f k) n (λ x l. ⊎_elim (λ (b : x < k). greatest_all f k x b) (λ (b : k ≤ x). omega (arith, h x b)) (lt_or_le x k))))
    (lt_or_le n k)

pub greatest_ext : (f g : ℕ → ℕ) (n : ℕ) → ((x : ℕ) → x < n → f x ≡ g x) → greatest f n ≡ greatest g n
unfolding greatest
greatest_ext f g zero h = refl
greatest_ext f g (suc k) h = ap₂ max (greatest_ext f g k (λ x l. h x (omega arith))) (h k (omega arith))

-- a place that held 0 is given a value
pub greatest_set : (xs : List ℕ) (n t v : ℕ) → at xs t ≡ 0 → t < n → t < length xs → greatest (at (set xs t v)) n ≡ max (greatest (at xs) n) v
greatest_set xs n t v z l b = le_antisymm
    (greatest_least (at (set xs t v)) (max (greatest (at xs) n) v) n
    (at_or (λ x. x < n → at (set xs t v) x ≤ max (greatest (at xs) n) v) t
    (λ q. omega (arith, get_or-set_same xs t v 0 b))
    (λ x q k. omega (arith, get_or-set_other xs t x v 0 q, greatest_all (at xs) n x k))))
    (max_least (greatest (at xs) n) v (greatest (at (set xs t v)) n)
    (greatest_least (at xs) (greatest (at (set xs t v)) n) n
    (at_or (λ x. x < n → at xs x ≤ greatest (at (set xs t v)) n) t
    (λ q. omega arith)
    (λ x q k. omega (arith, get_or-set_other xs t x v 0 q, greatest_all (at (set xs t v)) n x k))))
    (omega (arith, get_or-set_same xs t v 0 b, greatest_all (at (set xs t v)) n t l)))
  where
    max_least : (a b c : ℕ) → a ≤ c → b ≤ c → max a b ≤ c
    max_least a b c h g = omega arith

-- the first place of two tests that are the same at each of them
pub first_same : (f g : ℕ → Bool) (i left : ℕ) → ((x : ℕ) → i ≤ x → x < i + left → f x ≡ g x) → first_from f i left ≡ first_from g i left
unfolding first_from
first_same f g i zero h = refl
first_same f g i (suc left) h =
    ap₂ (λ t k. if t then i else k) (h i (omega arith) (omega arith)) (first_same f g (suc i) left (λ x a b. h x (omega arith) (omega arith)))

-- ---- tables

module _ {X : Type 0} (f : ℕ → X) where
  pub length_from : (i n : ℕ) → length (from f i n) ≡ n
  unfolding from
  length_from i zero = refl
  length_from i (suc n) = ap suc (length_from (suc i) n)

  pub get_d_from : (i n k : ℕ) (d : X) → k < n → get_or (from f i n) k d ≡ f (i + k)
  unfolding from
  get_d_from i zero k d h = absurd (not-suc-le-zero h)
  get_d_from i (suc n) zero d h = ap f (omega arith)
  get_d_from i (suc n) (suc k) d h = get_d_from (suc i) n k d (le_of_suc-le-suc h) ∙ ap f (omega arith)

  pub get_d_tabulate : (n k : ℕ) (d : X) → k < n → get_or (tabulate n f) k d ≡ f k
  get_d_tabulate n k d h = get_d_from 0 n k d h ∙ ap f (omega arith)

-- the same at each place is the same table
pub from_same : {X : Type 0} (f g : ℕ → X) (i n : ℕ) → ((k : ℕ) → i ≤ k → k < i + n → f k ≡ g k) → from f i n ≡ from g i n
unfolding from
from_same f g i zero e = refl
from_same f g i (suc n) e = λ j. e i (omega arith) (omega arith) j ∷ from_same f g (suc i) n (λ k a b. e k (omega arith) (omega arith)) j

-- ---- a loop that writes f k at each place k in turn

module _ (xs : List ℕ) (f : ℕ → ℕ) where
  -- a loop that has written the first k of n places
  abbrev pub RenewedSoFar : ℕ → ℕ → List ℕ → Type 0
  RenewedSoFar n k ys = (k ≤ n) × (ys ≡ renewed xs f k)

  pub renewed_start : (n : ℕ) → RenewedSoFar n 0 xs
  unfolding renewed
  renewed_start n = (omega arith, refl)

  pub renewed_more : (k : ℕ) → renewed xs f (k + 1) ≡ set (renewed xs f k) k (f k)
  unfolding renewed
  renewed_more k = rw (add-one k)

  pub length_renewed : (n : ℕ) → length (renewed xs f n) ≡ length xs
  unfolding renewed
  length_renewed zero = refl
  length_renewed (suc k) = length-set (renewed xs f k) k (f k) ∙ length_renewed k

  -- a place that the loop has not come to holds what it held
  pub renewed_rest : (n i d : ℕ) → n ≤ i → get_or (renewed xs f n) i d ≡ get_or xs i d
  unfolding renewed
  renewed_rest zero i d h = refl
  renewed_rest (suc k) i d h = get_or-set_other (renewed xs f k) k i (f k) d (λ e. omega arith) ∙ renewed_rest k i d (omega arith)

  pub renewed_at : (n i d : ℕ) → i < n → i < length xs → get_or (renewed xs f n) i d ≡ f i
  unfolding renewed
  renewed_at zero i d h b = absurd (not-suc-le-zero h)
  renewed_at (suc k) i d h b = ⊎_elim
      (λ e. rw e (get_or-set_same (renewed xs f k) k (f k) d (rw (length_renewed k) (rw e at b))))
      (λ l. get_or-set_other (renewed xs f k) k i (f k) d (λ e. omega arith) ∙ renewed_at k i d l b)
      (eq-or-lt_of_le (le_of_suc-le-suc h))

  pub renewed_next : (n k v : ℕ) (ys : List ℕ) → RenewedSoFar n k ys → k < n → v ≡ f k → RenewedSoFar n (k + 1) (set ys k v)
  renewed_next n k v ys e l g = (omega arith, rw (renewed_more, e.1, g))

  pub renewed_ends : (n k : ℕ) (ys : List ℕ) → RenewedSoFar n k ys → n ≤ k → ys ≡ renewed xs f n
  renewed_ends n k ys e b = let q : k ≡ n = omega arith in e.1 ∙ ap (renewed xs f) q

-- what is written is what stood there
pub renewed_same : (xs : List ℕ) (f : ℕ → ℕ) (n : ℕ) → ((x : ℕ) → x < n → f x ≡ at xs x) → renewed xs f n ≡ xs
unfolding renewed
renewed_same xs f zero h = refl
renewed_same xs f (suc k) h = ap₂ (λ ys v. set ys k v) (renewed_same xs f k (λ x l. h x (omega arith))) (h k (omega arith)) ∙ set-get_or xs k 0

-- ---- all places from n on are 0

pub zero_past : (n i : ℕ) → at (replicate n 0) i ≡ 0
zero_past zero i = refl
zero_past (suc n) zero = refl
zero_past (suc n) (suc i) = zero_past n i

-- what is cleared is 0
pub cleared : (xs : List ℕ) (q : ℕ) → at (set xs q 0) q ≡ 0
cleared [] q = refl
cleared (x ∷ xs) zero = refl
cleared (x ∷ xs) (suc q) = cleared xs q

pub zeros_at : (xs : List ℕ) → zeros xs ≡ true → (i : ℕ) → at xs i ≡ 0
unfolding zeros
zeros_at [] e i = refl
zeros_at (x ∷ xs) e zero = eqb-true x 0 (and_true (eqb x 0) (zeros xs) e).0
zeros_at (x ∷ xs) e (suc i) = zeros_at xs (and_true (eqb x 0) (zeros xs) e).1 i

pub at_zeros : (xs : List ℕ) → ((i : ℕ) → at xs i ≡ 0) → zeros xs ≡ true
unfolding zeros
at_zeros [] h = refl
at_zeros (x ∷ xs) h = rw (eq-eqb x 0 (h 0)) (at_zeros xs (λ i. h (suc i)))

pub spare_at : (n : ℕ) (xs : List ℕ) → zeros (drop n xs) ≡ true → (i : ℕ) → n ≤ i → at xs i ≡ 0
spare_at zero xs e i h = zeros_at xs e i
spare_at (suc n) [] e i h = refl
spare_at (suc n) (x ∷ xs) e zero h = absurd (not-suc-le-zero h)
spare_at (suc n) (x ∷ xs) e (suc i) h = spare_at n xs e i (le_of_suc-le-suc h)

pub at_spare : (n : ℕ) (xs : List ℕ) → ((i : ℕ) → n ≤ i → at xs i ≡ 0) → zeros (drop n xs) ≡ true
unfolding zeros
at_spare zero xs h = at_zeros xs (λ i. h i (omega arith))
at_spare (suc n) [] h = refl
at_spare (suc n) (x ∷ xs) h = at_spare n xs (λ i l. h (suc i) (omega arith))

-- a table that was 0 all over, written up to place k, where f is 0 from there on
pub renewed_table : (f : ℕ → ℕ) (n k : ℕ) → k ≤ n → ((x : ℕ) → k ≤ x → f x ≡ 0) → renewed (replicate n 0) f k ≡ tabulate n f
renewed_table f n k h z = ext_get_or 0 (renewed (replicate n 0) f k) (tabulate n f)
    (length_renewed (replicate n 0) f k ∙ length-replicate n 0 ∙ sym (length_from f 0 n))
    (λ i l. let b : i < n = omega (arith, length_renewed (replicate n 0) f k, length-replicate {A = ℕ} n 0) in
    ⊎_elim
    (λ (q : i < k). renewed_at (replicate n 0) f k i 0 q (omega (arith, length-replicate {A = ℕ} n 0)) ∙ sym (get_d_tabulate f n i 0 b))
    (λ (q : k ≤ i). renewed_rest (replicate n 0) f k i 0 q ∙ zero_past n i ∙ sym (z i q) ∙ sym (get_d_tabulate f n i 0 b))
    (lt_or_le i k))

-- the places that were written are the table
pub renewed_front : (xs : List ℕ) (f : ℕ → ℕ) (n : ℕ) → n ≤ length xs → take n (renewed xs f n) ≡ tabulate n f
renewed_front xs f n h = ext_get_or 0 (take n (renewed xs f n)) (tabulate n f)
    (long ∙ sym (length_from f 0 n))
    (λ i l. let b : i < n = omega (arith, long) in get_or-take n (renewed xs f n) i 0 b ∙ renewed_at xs f n i 0 b (omega arith) ∙ sym (get_d_tabulate f n i 0 b))
  where
    long : length (take n (renewed xs f n)) ≡ n
    long = length-take-le n (renewed xs f n) (omega (arith, length_renewed xs f n))

-- past the end of a table there is 0
pub none_past : (xs : List ℕ) (n i : ℕ) → length xs ≡ n → n ≤ i → 0 ≡ at xs i
none_past [] n i e h = refl
none_past (x ∷ xs) n zero e h = absurd (omega arith)
none_past (x ∷ xs) n (suc i) e h = none_past xs (length xs) i refl (omega arith)
