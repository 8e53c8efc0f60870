-- Laws of the keys: what a key is, and the tournament where a task's figures change. Assumes nothing.
use mathlib.Core.Path.{◌≡◌, refl, sym, ◌∙◌}
use mathlib.Core.Logic.{◌≢◌}
use Prim.Native.Nat.{ℕ, ◌+◌, ◌*◌, ◌-◌, ◌^◌, ◌≤◌, ◌<◌}
use lib.Dec.{eqb}
use native.Mathlib.Omega.{arith}
use lib.ListN.{set, length-set}
use lib.Seq.{get_or-set_same, get_or-set_other}
use borrow.Author.Tests.{eq-eqb, ne_eqb}
use Rattle.rules.specs.Numbers.Capacity.{max_tasks}
use Rattle.rules.specs.Numbers.Place.{at}
use Rattle.rules.proofs.Numbers.Choice.{if_true, if_false, at_or}
use Rattle.rules.specs.declared.state.State.{State}
use Rattle.tournament.specs.Tree.{tree_of, changed}
use Rattle.tournament.specs.Keys.{order_of, key_of, keys_of, tournament_of}
use Rattle.tournament.specs.Tournament.{IsTournamentOf}
use Rattle.tournament.specs.declared.tree.Tournament.{Tournament}
use Rattle.tournament.proofs.TreeLaws.{changed_same, changed_other, tree_ext}

-- ---- one key

module _ (kept released t : ℕ) where
  pub key_none : kept ≡ 0 → 0 ≡ key_of kept released t
  unfolding key_of
  key_none z = sym (if_true (eqb kept 0) 0 (kept * 2 ^ 40 + (2 ^ 40 - 1 - order_of released t)) (eq-eqb kept 0 z))

  pub key_some : kept ≢ 0 → kept * 2 ^ 40 + (2 ^ 40 - 1 - order_of released t) ≡ key_of kept released t
  unfolding key_of
  key_some n = sym (if_false (eqb kept 0) 0 (kept * 2 ^ 40 + (2 ^ 40 - 1 - order_of released t)) (ne_eqb kept 0 n))

-- ---- the keys of all tasks

keys_same : (released kept released₂ kept₂ : ℕ → ℕ) (x : ℕ) → released₂ x ≡ released x → kept₂ x ≡ kept x → keys_of released kept x ≡ keys_of released₂ kept₂ x
unfolding keys_of
keys_same released kept released₂ kept₂ x a b = rw (a, b)

-- ---- the tournament of a state

module _ (n : ℕ) (tree : Tournament) (s : State) (T : IsTournamentOf n tree s) where
  abbrev keys : ℕ → ℕ
  keys = keys_of (at s.released) (at s.kept)

  few : n ≤ max_tasks
  few = omega (arith, tree.few, T.tasks)

  -- the kernel keeps v for task t, and its key is put
  pub put_kept : (t v key : ℕ) (after : Tournament) → t < max_tasks → key ≡ key_of v (at s.released t) t → after.tasks ≡ tree.tasks
      → ((f : ℕ → ℕ) → tree.keys ≡ tree_of tree.tasks f → after.keys ≡ tree_of tree.tasks (changed f t key))
      → IsTournamentOf n after (record s { kept = set s.kept t v })
  unfolding keys_of
  put_kept t v key after l e same put = record {
    tasks = same ∙ T.tasks;
    keys = rw T.tasks at put keys (T.keys) ∙ tree_ext n few _ _ (λ x _. keyed x);
    sized = length-set s.kept t v ∙ T.sized;
  }
    where
      keyed : (x : ℕ) → changed keys t key x ≡ keys_of (at s.released) (at (set s.kept t v)) x
      keyed = at_or (λ x. changed keys t key x ≡ keys_of (at s.released) (at (set s.kept t v)) x) t
          (changed_same _ t key ∙ e ∙ rw (get_or-set_same s.kept t v 0 (omega (arith, T.sized))))
          (λ x d. changed_other _ t key x d ∙ keys_same (at s.released) (at s.kept) (at s.released) (at (set s.kept t v)) x refl (get_or-set_other s.kept t x v 0 d))

  -- the release number of a task for which nothing is kept may change
  pub put_idle : (t w : ℕ) → at s.kept t ≡ 0 → tree.keys ≡ tournament_of n (set s.released t w) s.kept
  unfolding keys_of
  put_idle t w z = T.keys ∙ tree_ext n few _ _ (λ x _. at_or (λ x. keys x ≡ keys_of (at (set s.released t w)) (at s.kept) x) t none
      (λ x d. keys_same (at s.released) (at s.kept) (at (set s.released t w)) (at s.kept) x (get_or-set_other s.released t x w 0 d) refl) x)
    where
      none : keys t ≡ keys_of (at (set s.released t w)) (at s.kept) t
      none = sym (key_none (at s.kept t) (at s.released t) t z) ∙ key_none (at s.kept t) (at (set s.released t w) t) t z
