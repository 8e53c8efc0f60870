-- The argument of demands 2 and 3, over three figures of a task: its release number, its urgency and how many locks it has open.
-- One fact carries it, `early`: a task that holds a lock has a base above the urgency of every task released before it. Assumes nothing.
use mathlib.Core.Path.{◌≡◌, ap}
use mathlib.Core.Logic.{◌≢◌, ⊎_elim}
use Prim.Native.Nat.{ℕ, suc, ◌≤◌, ◌<◌}
use native.Mathlib.Nat.{eq-zero-or-pos}
use native.Mathlib.Omega.{arith}
use Rattle.rules.proofs.Numbers.Choice.{at_or, lt_or_le}

-- the three figures of every task
pub record Standing : Type 0 where
  pub number : ℕ → ℕ
  pub urgency : ℕ → ℕ
  pub depth : ℕ → ℕ

-- task y has the same in both
pub record Alike (f g : Standing) (y : ℕ) : Type 0 where
  pub number : g.number y ≡ f.number y
  pub urgency : g.urgency y ≡ f.urgency y
  pub depth : g.depth y ≡ f.depth y

-- r is released, no released task is more urgent, and each that was released earlier is less urgent
pub record Best (f : Standing) (r : ℕ) : Type 0 where
  pub out : 0 < f.number r
  pub top : (y : ℕ) → 0 < f.number y → f.urgency y ≤ f.urgency r
  pub tie : (y : ℕ) → 0 < f.number y → f.number y < f.number r → f.urgency y < f.urgency r

-- what the figures of one task obey
pub record Own (base : ℕ → ℕ) (f : Standing) (x : ℕ) : Type 0 where
  pub above : base x ≤ f.urgency x
  pub plain : f.depth x ≡ 0 → f.urgency x ≡ base x
  pub holder : 0 < f.depth x → 0 < f.number x

abbrev pub Early : (ℕ → ℕ) → Standing → Type 0
Early base f = (x y : ℕ) → 0 < f.depth x → 0 < f.number y → f.number y < f.number x → f.urgency y < base x

-- what holds after any events from a fresh start, `count` of which were accepted
pub record Good (base : ℕ → ℕ) (count : ℕ) (f : Standing) : Type 0 where
  pub own : (x : ℕ) → Own base f x
  pub numbers : (x : ℕ) → f.number x ≤ count
  pub differ : (x y : ℕ) → 0 < f.number x → f.number x ≡ f.number y → x ≡ y
  pub early : Early base f

-- two numbers neither of which is below the other
pub apart : (m n : ℕ) → (m < n → ⊥) → (n < m → ⊥) → m ≡ n
apart m n h k = omega arith

module _ {base : ℕ → ℕ} {count : ℕ} {f : Standing} (G : Good base count f) where
  pub best_one : (r q : ℕ) → Best f r → Best f q → r ≡ q
  best_one r q b c =
      G.differ r q b.out
      (apart (f.number r) (f.number q) (λ l. omega (arith, c.tie r b.out l, b.top q c.out))
      (λ l. omega (arith, b.tie q c.out l, c.top r b.out)))

  -- who was released before the best task is less urgent than its base, whether or not it holds a lock
  pub early_best : (r y : ℕ) → Best f r → 0 < f.number y → f.number y < f.number r → f.urgency y < base r
  early_best r y b o h =
      ⊎_elim (λ z. omega (arith, b.tie y o h, (G.own r).plain z)) (λ c. G.early r y c o h) (eq-zero-or-pos (f.depth r))

  -- ---- the figures of one task change

  module _ {g : Standing} (r : ℕ) (alike : (y : ℕ) → y ≢ r → Alike f g y) where
    early_change : ((y : ℕ) → y ≢ r → 0 < g.depth r → 0 < f.number y → f.number y < g.number r → f.urgency y < base r)
        → ((x : ℕ) → x ≢ r → 0 < f.depth x → 0 < g.number r → g.number r < f.number x → g.urgency r < base x) → Early base g
    early_change holder other =
        at_or (λ x. (y : ℕ) → 0 < g.depth x → 0 < g.number y → g.number y < g.number x → g.urgency y < base x) r
        (at_or (λ y. 0 < g.depth r → 0 < g.number y → g.number y < g.number r → g.urgency y < base r) r (λ c o h. omega arith)
        (λ y n c o h. omega (arith, alike y n, holder y n c (omega (arith, alike y n)) (omega (arith, alike y n)))))
        (λ x n. at_or (λ y. 0 < g.depth x → 0 < g.number y → g.number y < g.number x → g.urgency y < base x) r
        (λ c o h. other x n (omega (arith, alike x n)) o (omega (arith, alike x n)))
        (λ y k c o h. omega (arith, alike y k, G.early x y (omega (arith, alike x n)) (omega (arith, alike y k)) (omega (arith, alike x n, alike y k)))))

    -- r, not released so far, is released
    pub early_release : g.number r ≡ suc count → g.depth r ≡ 0 → Early base g
    early_release e c = early_change (λ y n d. omega arith) (λ x n d o l. omega (arith, G.numbers x))

    -- the best task r takes a lock or gives it back
    pub early_act : Best f r → g.number r ≡ f.number r → Early base g
    early_act b e = early_change (λ y n c o l. early_best r y b o (omega arith))
        (λ x n c o l. omega (arith, (G.own x).above, b.top x (omega arith), G.early x r c b.out (omega arith)))

    -- r finishes, with no lock open
    pub early_finish : g.number r ≡ 0 → g.depth r ≡ 0 → Early base g
    early_finish e c = early_change (λ y n d. omega arith) (λ x n d o. omega arith)

    -- the best task r acts and stays the best, if no other released task is above its new urgency
    pub stay : Best f r → g.number r ≡ f.number r → base r ≤ g.urgency r → ((y : ℕ) → y ≢ r → 0 < f.number y → f.urgency y ≤ g.urgency r) → Best g r
    stay b e u h = record {
      out = omega (arith, b.out);
      top = at_or (λ y. 0 < g.number y → g.urgency y ≤ g.urgency r) r (λ o. omega arith)
          (λ y n o. omega (arith, alike y n, h y n (omega (arith, alike y n))));
      tie = at_or (λ y. 0 < g.number y → g.number y < g.number r → g.urgency y < g.urgency r) r (λ o l. omega arith)
          (λ y n o l. omega (arith, alike y n, early_best r y b (omega (arith, alike y n)) (omega (arith, alike y n))));
    }

    -- r is released, and the best task q is at least as urgent
    pub newcomer : (q : ℕ) → q ≢ r → Best f q → g.number r ≡ suc count → g.urgency r ≤ f.urgency q → Best g q
    newcomer q n b e h = record {
      out = omega (arith, b.out, alike q n);
      top = at_or (λ y. 0 < g.number y → g.urgency y ≤ g.urgency q) r (λ o. omega (arith, alike q n))
          (λ y k o. omega (arith, alike q n, alike y k, b.top y (omega (arith, alike y k))));
      tie = at_or (λ y. 0 < g.number y → g.number y < g.number q → g.urgency y < g.urgency q) r (λ o l. omega (arith, alike q n, G.numbers q))
          (λ y k o l. omega (arith, alike q n, alike y k, b.tie y (omega (arith, alike y k)) (omega (arith, alike q n, alike y k))));
    }

  -- ---- who holds up whom

  -- a task of lower base that is urgent enough to hold up t holds a lock
  holds_lock : (t x : ℕ) → base x < base t → base t ≤ f.urgency x → 0 < f.depth x
  holds_lock t x l h = ⊎_elim (λ z. omega (arith, (G.own x).plain z)) (λ c. c) (eq-zero-or-pos (f.depth x))

  -- it is the only one
  pub only : (t x y : ℕ) → base x < base t → base y < base t → base t ≤ f.urgency x → base t ≤ f.urgency y → x ≡ y
  only t x y l k h i =
      let a : 0 < f.depth x = holds_lock t x l h in
      let b : 0 < f.depth y = holds_lock t y k i in
      G.differ x y ((G.own x).holder a)
      (apart (f.number x) (f.number y) (λ q. omega (arith, G.early y x b ((G.own x).holder a) q))
      (λ q. omega (arith, G.early x y a ((G.own y).holder b) q)))

  -- and nobody holds up the best task
  pub undisturbed : (t x : ℕ) → Best f t → base x < base t → f.urgency x < base t
  undisturbed t x b l = ⊎_elim (λ h. h) (λ h. absurd (clash h (holds_lock t x l h))) (lt_or_le (f.urgency x) (base t))
    where
      clash : base t ≤ f.urgency x → 0 < f.depth x → ⊥
      clash h c = omega (
        arith,
        ap base (G.differ x t ((G.own x).holder c)
            (apart (f.number x) (f.number t) (λ q. omega (arith, early_best t x b ((G.own x).holder c) q))
            (λ q. omega (arith, (G.own t).above, G.early x t c b.out q)))),
      )

  -- ---- mutual exclusion: a lock of this ceiling that the best task may take is open for no other task, whose urgency would be at least the ceiling

  pub free : (r x ceiling : ℕ) → Best f r → base r ≤ ceiling → 0 < f.depth x → ceiling ≤ f.urgency x → x ≡ r
  free r x ceiling b u c h =
      let o : 0 < f.number x = (G.own x).holder c in
      G.differ x r o
      (apart (f.number x) (f.number r) (λ k. omega (arith, early_best r x b o k))
      (λ k. omega (arith, G.early x r c b.out k, (G.own x).above, b.top x o)))
