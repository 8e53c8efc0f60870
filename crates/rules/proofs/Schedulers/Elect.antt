-- Who is elected: of greatest key, and of those the earliest released. Assumes nothing.
use mathlib.Core.Path.{◌≡◌, refl, sym, ◌∙◌, subst}
use mathlib.Core.Logic.{◌≢◌, ◌⊎◌, inl, inr, ⊎_elim}
use Prim.Native.Nat.{ℕ, zero, suc, ◌≤◌, ◌<◌}
use native.Mathlib.Nat.{eq-zero-or-pos, not-suc-le-zero}
use native.Mathlib.Decide.{ℕ_discrete}
use native.Mathlib.Omega.{arith}
use lib.Dec.{eqb}
use borrow.Author.Tests.{eqb-true, eqb-false, eq-eqb, ne_eqb}
use Rattle.rules.specs.Numbers.Capacity.{nobody}
use Rattle.rules.specs.Numbers.Place.{greatest}
use Rattle.rules.specs.Schedulers.Elect.{earlier, earliest, elected}
use Rattle.rules.proofs.Numbers.Choice.{if_true, if_false, by_test, lt_or_le}
use Rattle.rules.proofs.Numbers.Place.{below, greatest_all, greatest_some}
use Rattle.rules.proofs.Schedulers.Rules.{earlier_nobody, earlier_later, earlier_sooner}

module _ (released key : ℕ → ℕ) where
  -- q is one of the first n, of key g, and none of these of key g was released before it
  pub record Lead (g n q : ℕ) : Type 0 where
    pub within : q < n
    pub keyed : key q ≡ g
    pub first : (x : ℕ) → x < n → key x ≡ g → released q ≤ released x

  -- none of the first n has key g
  abbrev pub None : ℕ → ℕ → Type 0
  None g n = (x : ℕ) → x < n → key x ≡ g → ⊥

  module _ (g : ℕ) where
    -- one more task, k, of key g
    with_first_lem : (k : ℕ) → key k ≡ g → None g k → Lead g (suc k) (earlier released nobody k)
    with_first_lem k e none =
        rw (earlier_nobody released k)
        (record {
          within = omega arith;
          keyed = e;
          first = below (λ x. key x ≡ g → released k ≤ released x) k (λ x l i. absurd (none x l i))
              (λ i. omega arith);
        })

    with_next : (k b : ℕ) → k ≤ nobody → key k ≡ g → Lead g k b → Lead g (suc k) (earlier released b k)
    with_next k b h e L = ⊎_elim
        (λ (q : released k < released b). rw (earlier_later released b k some q) (record {
          within = omega arith;
          keyed = e;
          first = below (λ x. key x ≡ g → released k ≤ released x) k (λ x l i. omega (arith, L.first x l i)) (λ i. omega arith);
        }))
        (λ (q : released b ≤ released k). rw (earlier_sooner released b k some q) (record {
          within = omega (arith, L.within);
          keyed = L.keyed;
          first = below (λ x. key x ≡ g → released b ≤ released x) k L.first (λ i. q);
        }))
        (lt_or_le (released k) (released b))
      where
        some : b ≢ nobody
        some z = omega (arith, L.within)

    passed_by : (k b : ℕ) → key k ≢ g → Lead g k b → Lead g (suc k) b
    passed_by k b e L = record {
      within = omega (arith, L.within);
      keyed = L.keyed;
      first = below (λ x. key x ≡ g → released b ≤ released x) k L.first (λ i. absurd (e i));
    }

    with_earlier : (k b : ℕ) → (b ≢ nobody → b < k) → earlier released b k < suc k
    with_earlier k b h = go (ℕ_discrete b nobody)
      where
        go : Dec (b ≡ nobody) → earlier released b k < suc k
        go (yes z) = rw (z, earlier_nobody released k) (omega arith)
        go (no n) = ⊎_elim
            (λ (q : released k < released b). rw (earlier_later released b k n q) (omega arith))
            (λ (q : released b ≤ released k). rw (earlier_sooner released b k n q) (omega (arith, h n)))
            (lt_or_le (released k) (released b))

    earliest_is : (n : ℕ) → n ≤ nobody → Lead g n (earliest released key g n) ⊎ ((earliest released key g n ≡ nobody) × None g n)
    unfolding earliest
    earliest_is zero h = inr (refl, λ x l. absurd (not-suc-le-zero l))
    earliest_is (suc k) h = by_test (eqb (key k) g)
        (λ t. let e : key k ≡ g = eqb-true (key k) g t in
        rw (if_true (eqb (key k) g) (earlier released (earliest released key g k) k) (earliest released key g k) t)
        (inl (⊎_elim (λ L. with_next k (earliest released key g k) (omega arith) e L)
        (λ (q, none). subst (λ b. Lead g (suc k) (earlier released b k)) (sym q) (with_first_lem k e none)) (earliest_is k (omega arith)))))
        (λ t. let e : key k ≢ g = eqb-false (key k) g t in
        rw (if_false (eqb (key k) g) (earlier released (earliest released key g k) k) (earliest released key g k) t)
        (⊎_elim (λ L. inl (passed_by k (earliest released key g k) e L)) (λ (q, none). inr (q, below (λ x. key x ≡ g → ⊥) k none e))
        (earliest_is k (omega arith))))

    -- whoever leads is one of the first n
    pub earliest_within : (n : ℕ) → earliest released key g n ≢ nobody → earliest released key g n < n
    unfolding earliest
    earliest_within zero h = absurd (h refl)
    earliest_within (suc k) h = by_test (eqb (key k) g)
        (λ t. let e : earliest released key g (suc k) ≡ earlier released (earliest released key g k) k = if_true (eqb (key k) g) _ _ t in rw e
        (with_earlier k (earliest released key g k) (earliest_within k)))
        (λ t. let e : earliest released key g (suc k) ≡ earliest released key g k = if_false (eqb (key k) g) _ _ t in rw e
        (omega (arith, earliest_within k (λ z. h (e ∙ z)))))

  module _ (n : ℕ) (few : n ≤ nobody) where
    pub elected_none : greatest key n ≡ 0 → elected released key n ≡ nobody
    unfolding elected
    elected_none z = if_true (eqb (greatest key n) 0) nobody (earliest released key (greatest key n) n) (eq-eqb (greatest key n) 0 z)

    pub elected_lead : 0 < greatest key n → Lead (greatest key n) n (elected released key n)
    unfolding elected
    elected_lead h =
        rw (if_false (eqb (greatest key n) 0) nobody (earliest released key (greatest key n) n) (ne_eqb (greatest key n) 0 (λ z. omega arith)))
        (⊎_elim (λ L. L) (λ (q, none). let (x, l, e) = greatest_some key n h in absurd (none x l e)) (earliest_is (greatest key n) n few))

    -- somebody is elected exactly where some key is above 0
    pub elected_some : elected released key n ≢ nobody → 0 < greatest key n
    elected_some h = ⊎_elim (λ z. absurd (h (elected_none z))) (λ o. o) (eq-zero-or-pos (greatest key n))

    pub elected_one : (x : ℕ) → x < n → 0 < key x → elected released key n ≢ nobody
    elected_one x l h q = omega (arith, (elected_lead (omega (arith, greatest_all key n x l))).within)

    -- who is above all others is elected, whenever released
    pub elected_above : (q : ℕ) → q < n → 0 < key q → ((x : ℕ) → x < n → x ≢ q → key x < key q) → elected released key n ≡ q
    elected_above q l o h = go (ℕ_discrete (elected released key n) q)
      where
        L : Lead (greatest key n) n (elected released key n)
        L = elected_lead (omega (arith, greatest_all key n q l))

        go : Dec (elected released key n ≡ q) → elected released key n ≡ q
        go (yes e) = e
        go (no d) = absurd (omega (arith, L.keyed, h (elected released key n) L.within d, greatest_all key n q l))
