-- The loops that make a tournament in an array of zeros, from the last place down to the root. Assumes nothing.
use mathlib.Core.Path.{◌≡◌, sym, ◌∙◌, ap, ap₂, subst}
use mathlib.Core.List.{List}
use Prim.Native.Nat.{ℕ, ◌+◌, ◌*◌, ◌-◌, ◌≤◌, ◌<◌, max}
use native.Mathlib.Omega.{arith}
use lib.ListN.{length, set, length-set, replicate, length-replicate}
use lib.Seq.{get_or-set_same, get_or-set_other, ext_get_or}
use Rattle.rules.specs.Numbers.Capacity.{max_tasks}
use Rattle.rules.specs.Numbers.Place.{at}
use Rattle.rules.proofs.Numbers.Choice.{at_or}
use Rattle.rules.proofs.Numbers.Place.{zero_past}
use Rattle.tournament.specs.Tree.{places, inner, tree_of, TreeFrom}
use Rattle.tournament.specs.Keys.{key_of, keys_of}
use Rattle.tournament.proofs.TreeLaws.{key_in, key_past, tree_length, tree_key, tree_inner}

module _ (n : ℕ) (f : ℕ → ℕ) where
  -- past the keys there are zeros
  from_zeros : (old : List ℕ) → old ≡ replicate places 0 → TreeFrom n f (2 * n - 1) old
  from_zeros old z = (
    ap length z ∙ length-replicate {A = ℕ} places 0,
    λ j h l. ap (λ xs. at xs j) z ∙ zero_past places j ∙ sym (tree_key n f j (omega arith) l ∙ key_past n f j (omega arith)),
  )

  -- one place more
  from_next : (i v : ℕ) (tree : List ℕ) → i < places → TreeFrom n f (i + 1) tree → v ≡ at (tree_of n f) i → TreeFrom n f i (set tree i v)
  from_next i v tree b (e, h) g = (
    length-set tree i v ∙ e,
    at_or (λ j. i ≤ j → j < places → at (set tree i v) j ≡ at (tree_of n f) j) i
        (λ q l. get_or-set_same tree i v 0 (omega arith) ∙ g)
        (λ j d q l. get_or-set_other tree i j v 0 d ∙ h j (omega arith) l),
  )

  -- all places
  from_all : (tree : List ℕ) → TreeFrom n f 0 tree → tree ≡ tree_of n f
  from_all tree (e, h) = ext_get_or 0 tree (tree_of n f) (e ∙ sym (tree_length n f)) (λ j l. h j (omega arith) (omega arith))

  pub build_none : n ≡ 0 → (tree : List ℕ) → tree ≡ replicate places 0 → tree ≡ tree_of n f
  build_none o tree z = let q : 2 * n - 1 ≡ 0 = omega arith in from_all tree (subst (λ i. TreeFrom n f i tree) q (from_zeros tree z))

-- ---- the keys, down to that of task t

module _ (n : ℕ) (released kept : ℕ → ℕ) where
  abbrev pub LaidSoFar : List ℕ → ℕ → List ℕ → Type 0
  LaidSoFar old t tree = (t ≤ n) × (old ≡ replicate places 0 → TreeFrom n (keys_of released kept) (inner n + t) tree)

  pub lay_start : (old : List ℕ) → 0 < n → LaidSoFar old n old
  lay_start old o = (omega arith, λ z. let q : 2 * n - 1 ≡ inner n + n = omega arith in subst (λ i. TreeFrom n (keys_of released kept) i old) q (from_zeros n (keys_of released kept) old z))

  pub lay_next : (old : List ℕ) (t v : ℕ) (tree : List ℕ) → n ≤ max_tasks → LaidSoFar old t tree → 0 < t → v ≡ key_of (kept (t - 1)) (released (t - 1)) (t - 1)
      → LaidSoFar old (t - 1) (set tree (n - 1 + (t - 1)) v)
  unfolding keys_of
  lay_next old t v tree few (b, h) o g = (
    omega arith,
    λ z. from_next n (keys_of released kept) (inner n + (t - 1)) v tree (omega arith)
        (let q : inner n + t ≡ inner n + (t - 1) + 1 = omega arith in rw q at h z)
        (g ∙ sym (tree_key n (keys_of released kept) (inner n + (t - 1)) (omega arith) (omega arith)
        ∙ key_in n (keys_of released kept) (inner n + (t - 1)) (omega arith) ∙ ap (keys_of released kept) (omega arith))),
  )

  pub lay_ends : (old : List ℕ) (t : ℕ) (tree : List ℕ) → LaidSoFar old t tree → t ≤ 0 → old ≡ replicate places 0 → TreeFrom n (keys_of released kept) (inner n) tree
  lay_ends old t tree (b, h) o z = let q : inner n + t ≡ inner n = omega arith in rw q at h z

-- ---- the places before them, down to place i

module _ (n : ℕ) where
  abbrev pub RaisedSoFar : List ℕ → ℕ → List ℕ → Type 0
  RaisedSoFar old i tree = (i ≤ inner n) × ((f : ℕ → ℕ) → TreeFrom n f (inner n) old → TreeFrom n f i tree)

  pub raise_start : (old : List ℕ) → RaisedSoFar old (n - 1) old
  raise_start old = (omega arith, λ f h. h)

  pub raise_next : (old : List ℕ) (i v : ℕ) (tree : List ℕ) → n ≤ max_tasks → RaisedSoFar old i tree → 0 < i
      → v ≡ max (at tree (2 * (i - 1) + 1)) (at tree (2 * (i - 1) + 2)) → RaisedSoFar old (i - 1) (set tree (i - 1) v)
  raise_next old i v tree few (b, h) o g = (
    omega arith,
    λ f s. let (e, k) = h f s in from_next n f (i - 1) v tree (omega arith)
        (let q : i ≡ i - 1 + 1 = omega arith in rw q at h f s)
        (g ∙ ap₂ max (k (2 * (i - 1) + 1) (omega arith) (omega arith)) (k (2 * (i - 1) + 2) (omega arith) (omega arith)) ∙ sym (tree_inner n f few (i - 1) (omega arith))),
  )

  pub raise_ends : (old : List ℕ) (i : ℕ) (tree : List ℕ) → RaisedSoFar old i tree → i ≤ 0 → (f : ℕ → ℕ) → TreeFrom n f (inner n) old → tree ≡ tree_of n f
  raise_ends old i tree (b, h) o f s = let q : i ≡ 0 = omega arith in from_all n f tree (rw q at h f s)
