-- Laws of the tournament: what makes an array the tree of its keys, place by place; a key that changes; and the root. Assumes nothing.
use mathlib.Core.Path.{◌≡◌, refl, sym, ◌∙◌, ap, ap₂}
use mathlib.Core.Logic.{◌≢◌, ⊎_elim}
use mathlib.Core.List.{List}
use Prim.Native.Nat.{ℕ, zero, suc, ◌+◌, ◌*◌, ◌-◌, ◌/◌, ◌%◌, ◌≤◌, ◌<◌, max}
use native.Mathlib.Nat.{le_antisymm, not-suc-le-zero}
use native.Mathlib.Omega.{arith}
use lib.Dec.{eqb, ltb}
use lib.ListN.{length, set, length-set}
use lib.Seq.{get_or-set_same, get_or-set_other, ext_get_or}
use borrow.Author.Tests.{eq-eqb, ne_eqb, lt-ltb, le-ltb}
use Rattle.rules.specs.Numbers.Capacity.{max_tasks}
use Rattle.rules.specs.Numbers.Place.{at, greatest}
use Rattle.rules.proofs.Numbers.Choice.{if_true, if_false, at_or, lt_or_le}
use Rattle.rules.proofs.Numbers.Place.{greatest_all, greatest_least, length_from, get_d_tabulate}
use Rattle.tournament.specs.Tree.{places, inner, key_at, node_of, tree_of, changed}

-- ---- f, but v at t

pub changed_same : (f : ℕ → ℕ) (t v : ℕ) → changed f t v t ≡ v
unfolding changed
changed_same f t v = if_true (eqb t t) v (f t) (eq-eqb t t refl)

pub changed_other : (f : ℕ → ℕ) (t v x : ℕ) → x ≢ t → changed f t v x ≡ f x
unfolding changed
changed_other f t v x n = if_false (eqb x t) v (f x) (ne_eqb x t n)

-- the place above i is the greater of i and of what stands beside it
pair : (tree : List ℕ) (p i : ℕ) → 0 < i → p ≡ (i - 1) / 2 → max (at tree i) (at tree (4 * p + 3 - i)) ≡ max (at tree (2 * p + 1)) (at tree (2 * p + 2))
pair tree p i o h = ⊎_elim
    (λ (q : i < 2 * p + 2). let a : i ≡ 2 * p + 1 = omega arith in let b : 4 * p + 3 - i ≡ 2 * p + 2 = omega arith in
    ap₂ (λ x y. max (at tree x) (at tree y)) a b)
    (λ (q : 2 * p + 2 ≤ i). let a : i ≡ 2 * p + 2 = omega arith in let b : 4 * p + 3 - i ≡ 2 * p + 1 = omega arith in
    omega (arith, ap (at tree) a, ap (at tree) b))
    (lt_or_le i (2 * p + 2))

module _ (n : ℕ) where
  -- ---- the definition, place by place

  module _ (f : ℕ → ℕ) where
    pub key_in : (i : ℕ) → i - inner n < n → key_at n f i ≡ f (i - inner n)
    unfolding key_at
    key_in i l = if_true (ltb (i - inner n) n) _ _ (lt-ltb (i - inner n) n l)

    pub key_past : (i : ℕ) → n ≤ i - inner n → key_at n f i ≡ 0
    unfolding key_at
    key_past i l = if_false (ltb (i - inner n) n) _ _ (le-ltb (i - inner n) n l)

    node_key : (levels i : ℕ) → inner n ≤ i → node_of n f levels i ≡ key_at n f i
    unfolding node_of
    node_key zero i h = refl
    node_key (suc levels) i h = if_false (ltb i (inner n)) _ _ (le-ltb i (inner n) h)

    node_none : (i : ℕ) → node_of n f 0 i ≡ key_at n f i
    unfolding node_of
    node_none i = refl

    node_inner : (levels i : ℕ) → i < inner n → node_of n f (suc levels) i ≡ max (node_of n f levels (2 * i + 1)) (node_of n f levels (2 * i + 2))
    unfolding node_of
    node_inner levels i h = if_true (ltb i (inner n)) _ _ (lt-ltb i (inner n) h)

    -- where there are levels enough, one more makes no difference
    node_more : (levels i : ℕ) → inner n ≤ i + levels → node_of n f (suc levels) i ≡ node_of n f levels i
    node_more zero i h = node_key 1 i (omega arith) ∙ sym (node_key 0 i (omega arith))
    node_more (suc levels) i h = ⊎_elim
        (λ (q : i < inner n). node_inner (suc levels) i q ∙ ap₂ max (node_more levels (2 * i + 1) (omega arith)) (node_more levels (2 * i + 2) (omega arith))
        ∙ sym (node_inner levels i q))
        (λ (q : inner n ≤ i). node_key (suc (suc levels)) i q ∙ sym (node_key (suc levels) i q))
        (lt_or_le i (inner n))

    pub tree_at : (i : ℕ) → i < places → at (tree_of n f) i ≡ node_of n f n i
    unfolding tree_of
    tree_at i l = get_d_tabulate (node_of n f n) places i 0 l

    pub tree_length : length (tree_of n f) ≡ places
    unfolding tree_of
    tree_length = length_from (node_of n f n) 0 places

    pub tree_key : (i : ℕ) → inner n ≤ i → i < places → at (tree_of n f) i ≡ key_at n f i
    tree_key i h l = tree_at i l ∙ node_key n i h

    pub tree_inner : n ≤ max_tasks → (i : ℕ) → i < inner n → at (tree_of n f) i ≡ max (at (tree_of n f) (2 * i + 1)) (at (tree_of n f) (2 * i + 2))
    tree_inner few i l = tree_at i (omega arith) ∙ sym (node_more n i (omega arith)) ∙ node_inner n i l
        ∙ ap₂ max (sym (tree_at (2 * i + 1) (omega arith))) (sym (tree_at (2 * i + 2) (omega arith)))

  -- ---- an array over the keys f in which the places of P hold the greater of the two below them

  pub record SettledAt (P : ℕ → Type 0) (f : ℕ → ℕ) (tree : List ℕ) : Type 0 where
    pub sized : length tree ≡ places
    pub key : (i : ℕ) → inner n ≤ i → i < places → at tree i ≡ key_at n f i
    pub node : (i : ℕ) → i < inner n → P i → at tree i ≡ max (at tree (2 * i + 1)) (at tree (2 * i + 2))

  -- all of them do
  abbrev pub All : ℕ → Type 0
  All i = Unit {0}

  -- all but the one above place i do
  abbrev pub NotAbove : ℕ → ℕ → Type 0
  NotAbove i j = (2 * j + 1 ≢ i) × (2 * j + 2 ≢ i)

  -- ---- the loop that climbs: from place i₀ of the array old it has come to place i, which holds v

  abbrev pub ClimbedSoFar : ℕ → List ℕ → ℕ → ℕ → List ℕ → Type 0
  ClimbedSoFar i₀ old i v tree = (i ≤ 2 * inner n) × ((f : ℕ → ℕ) → SettledAt (NotAbove i₀) f old → SettledAt (NotAbove i) f tree × (at tree i ≡ v))

  module _ (few : n ≤ max_tasks) where
    pub settled_tree : (f : ℕ → ℕ) (tree : List ℕ) → SettledAt All f tree → tree ≡ tree_of n f
    settled_tree f tree s = ext_get_or 0 tree (tree_of n f) (s.sized ∙ sym (tree_length f))
        (λ i l. go n i (omega arith) (omega (arith, s.sized)) ∙ sym (tree_at f i (omega (arith, s.sized))))
      where
        go : (levels i : ℕ) → inner n ≤ i + levels → i < places → at tree i ≡ node_of n f levels i
        go zero i h l = s.key i (omega arith) l ∙ sym (node_key f 0 i (omega arith))
        go (suc levels) i h l = ⊎_elim
            (λ (q : i < inner n). s.node i q tt ∙ ap₂ max (go levels (2 * i + 1) (omega arith) (omega arith)) (go levels (2 * i + 2) (omega arith) (omega arith))
            ∙ sym (node_inner f levels i q))
            (λ (q : inner n ≤ i). s.key i q l ∙ sym (node_key f (suc levels) i q))
            (lt_or_le i (inner n))

    -- trees of the same keys
    pub tree_ext : (f g : ℕ → ℕ) → ((x : ℕ) → x < n → f x ≡ g x) → tree_of n f ≡ tree_of n g
    tree_ext f g h = settled_tree g (tree_of n f) (record { sized = tree_length f; key = λ i b l. tree_key f i b l ∙ same i; node = λ i l _. tree_inner f few i l })
      where
        same : (i : ℕ) → key_at n f i ≡ key_at n g i
        same i = ⊎_elim
            (λ (q : i - inner n < n). key_in f i q ∙ h (i - inner n) q ∙ sym (key_in g i q))
            (λ (q : n ≤ i - inner n). key_past f i q ∙ sym (key_past g i q))
            (lt_or_le (i - inner n) n)

    -- ---- a key changes: every place but the one above it holds what it held

    key_put : (f : ℕ → ℕ) (t v : ℕ) → t < n → SettledAt (NotAbove (inner n + t)) (changed f t v) (set (tree_of n f) (inner n + t) v)
    key_put f t v b = record {
      sized = length-set (tree_of n f) (inner n + t) v ∙ tree_length f;
      key = at_or (λ i. inner n ≤ i → i < places → at (set (tree_of n f) (inner n + t) v) i ≡ key_at n (changed f t v) i) (inner n + t)
          (λ h l. get_or-set_same (tree_of n f) (inner n + t) v 0 (omega (arith, tree_length f)) ∙ sym (key_in (changed f t v) (inner n + t) (omega arith)
          ∙ ap (changed f t v) (omega arith) ∙ changed_same f t v))
          (λ i d h l. other i d ∙ tree_key f i h l ∙ kept i d h);
      node = λ j l (x, y). other j (λ e. omega arith) ∙ tree_inner f few j l ∙ ap₂ max (sym (other (2 * j + 1) x)) (sym (other (2 * j + 2) y));
    }
      where
        other : (i : ℕ) → i ≢ inner n + t → at (set (tree_of n f) (inner n + t) v) i ≡ at (tree_of n f) i
        other i d = get_or-set_other (tree_of n f) (inner n + t) i v 0 d

        kept : (i : ℕ) → i ≢ inner n + t → inner n ≤ i → key_at n f i ≡ key_at n (changed f t v) i
        kept i d h = ⊎_elim
            (λ (q : i - inner n < n). key_in f i q ∙ sym (changed_other f t v (i - inner n) (λ e. d (omega arith))) ∙ sym (key_in (changed f t v) i q))
            (λ (q : n ≤ i - inner n). key_past f i q ∙ sym (key_past (changed f t v) i q))
            (lt_or_le (i - inner n) n)

    -- place p is made the greater of the two below it: the one above it is the next
    climb_node : (f : ℕ → ℕ) (tree : List ℕ) (i p v : ℕ) → 0 < i → i ≤ 2 * inner n → p ≡ (i - 1) / 2 → v ≡ max (at tree (2 * p + 1)) (at tree (2 * p + 2))
        → SettledAt (NotAbove i) f tree → SettledAt (NotAbove p) f (set tree p v)
    climb_node f tree i p v o b h g s = record {
      sized = length-set tree p v ∙ s.sized;
      key = λ j q l. other j (λ e. omega arith) ∙ s.key j q l;
      node = at_or (λ j. j < inner n → NotAbove p j → at (set tree p v) j ≡ max (at (set tree p v) (2 * j + 1)) (at (set tree p v) (2 * j + 2))) p
          (λ l q. get_or-set_same tree p v 0 (omega (arith, s.sized)) ∙ g ∙ ap₂ max (sym (other (2 * p + 1) (λ e. omega arith))) (sym (other (2 * p + 2) (λ e. omega arith))))
          (λ j d l (x, y). other j d ∙ s.node j l (λ z. d (omega arith), λ z. d (omega arith)) ∙ ap₂ max (sym (other (2 * j + 1) x)) (sym (other (2 * j + 2) y)));
    }
      where
        other : (j : ℕ) → j ≢ p → at (set tree p v) j ≡ at tree j
        other j d = get_or-set_other tree p j v 0 d

    -- where a place k stands before i, i is not the root
    pub climb_next : (k i₀ i v d : ℕ) (old tree : List ℕ) → ClimbedSoFar i₀ old i v tree → k < i → d ≡ max v (at tree (4 * ((i - 1) / 2) + 3 - i))
        → ClimbedSoFar i₀ old ((i - 1) / 2) d (set tree ((i - 1) / 2) d)
    climb_next k i₀ i v d old tree (b, s) l h = (
      omega arith,
      λ f q. let (S, g) = s f q in (
        climb_node f tree i p d (omega arith) b refl (h ∙ ap (λ x. max x (at tree (4 * p + 3 - i))) (sym g) ∙ pair tree p i (omega arith) refl) S,
        get_or-set_same tree p d 0 (omega (arith, S.sized)),
      ),
    )
      where
        p : ℕ
        p = (i - 1) / 2

    -- ---- the root

    pub root_greatest : (f : ℕ → ℕ) → at (tree_of n f) 0 ≡ greatest f n
    root_greatest f = le_antisymm
        (rw (tree_at f 0 (omega arith)) (under n 0))
        (greatest_least f (v 0) n (λ x l. omega (arith, place x l, above places (inner n + x) (omega arith) (omega arith))))
      where
        v : ℕ → ℕ
        v = at (tree_of n f)

        place : (x : ℕ) → x < n → v (inner n + x) ≡ f x
        place x l = tree_key f (inner n + x) (omega arith) (omega arith) ∙ key_in f (inner n + x) (omega arith) ∙ ap f (omega arith)

        -- no place of the tree holds more than the root
        above : (k i : ℕ) → i < k → i ≤ 2 * inner n → v i ≤ v 0
        above zero i h l = absurd (not-suc-le-zero h)
        above (suc k) zero h l = omega arith
        above (suc k) (suc i) h l = ⊎_elim
            (λ (q : i % 2 < 1). let e : suc i ≡ 2 * (i / 2) + 1 = omega arith in
            omega (arith, ap v e, tree_inner f few (i / 2) (omega arith), above k (i / 2) (omega arith) (omega arith)))
            (λ (q : 1 ≤ i % 2). let e : suc i ≡ 2 * (i / 2) + 2 = omega arith in
            omega (arith, ap v e, tree_inner f few (i / 2) (omega arith), above k (i / 2) (omega arith) (omega arith)))
            (lt_or_le (i % 2) 1)

        key : (i : ℕ) → key_at n f i ≤ greatest f n
        key i = ⊎_elim
            (λ (q : i - inner n < n). rw (key_in f i q) (greatest_all f n (i - inner n) q))
            (λ (q : n ≤ i - inner n). rw (key_past f i q) (omega arith))
            (lt_or_le (i - inner n) n)

        -- and none more than the greatest key
        under : (levels i : ℕ) → node_of n f levels i ≤ greatest f n
        under zero i = rw (node_none f i) (key i)
        under (suc levels) i = ⊎_elim
            (λ (q : i < inner n). omega (arith, node_inner f levels i q, under levels (2 * i + 1), under levels (2 * i + 2)))
            (λ (q : inner n ≤ i). rw (node_key f (suc levels) i q) (key i))
            (lt_or_le i (inner n))

-- ---- what a put comes to

module _ (n : ℕ) (few : n ≤ max_tasks) (t key : ℕ) (f : ℕ → ℕ) where
  -- a tree of the changed keys has the greatest of them at its root
  root_changed : (tree : List ℕ) (r : ℕ) → r ≡ at tree 0 → tree ≡ tree_of n (changed f t key) → r ≡ greatest (changed f t key) n
  root_changed tree r g e = g ∙ ap (λ xs. at xs 0) e ∙ root_greatest n few (changed f t key)

  -- a key past the last changes nothing
  pub put_past : n ≤ t → (tree : List ℕ) → tree ≡ tree_of n f → tree ≡ tree_of n (changed f t key)
  put_past h tree e = e ∙ tree_ext n few f (changed f t key) (λ x l. sym (changed_other f t key x (λ q. omega arith)))

  pub put_past_root : n ≤ t → (tree : List ℕ) (r : ℕ) → tree ≡ tree_of n f → r ≡ at tree 0 → r ≡ greatest (changed f t key) n
  put_past_root h tree r e g = root_changed tree r g (put_past h tree e)

  module _ (old : List ℕ) (i v : ℕ) (tree : List ℕ) (b : t < n) (C : ClimbedSoFar n (inner n + t) (set old (inner n + t) key) i v tree) (z : i ≤ 0)
      (e : old ≡ tree_of n f) where
    pub climb_ends : tree ≡ tree_of n (changed f t key)
    climb_ends =
        let S : SettledAt n (NotAbove n i) (changed f t key) tree = (C.1 (changed f t key) (rw e (key_put n few f t key b))).0 in
        settled_tree n few (changed f t key) tree (record {
          sized = S.sized;
          key = S.key;
          node = λ j l _. S.node j l (λ h. omega arith, λ h. omega arith);
        })

    pub climb_root : v ≡ greatest (changed f t key) n
    climb_root =
        let o : i ≡ 0 = omega arith in
        root_changed tree v (sym (C.1 (changed f t key) (rw e (key_put n few f t key b))).1 ∙ ap (at tree) o) climb_ends

pub climb_start : (n t key : ℕ) (old : List ℕ) → n ≤ max_tasks → t < n → ClimbedSoFar n (inner n + t) (set old (inner n + t) key) (inner n + t) key (set old (inner n + t) key)
climb_start n t key old few l = (omega arith, λ f s. (s, get_or-set_same old (inner n + t) key 0 (omega (arith, s.sized, length-set old (inner n + t) key))))
