-- What the root says: who is elected, and the greatest kept priority. Assumes nothing.
use Rattle.std.specs.Prelude.{if◌then◌else◌}
use mathlib.Core.Path.{◌≡◌, refl, sym, ◌∙◌, ap, ap₂}
use mathlib.Core.Logic.{◌≢◌, ⊎_elim}
use mathlib.Core.List.{List}
use Prim.Native.Nat.{ℕ, zero, suc, ◌+◌, ◌*◌, ◌-◌, ◌/◌, ◌^◌, ◌≤◌, ◌<◌}
use native.Mathlib.Nat.{le_antisymm, eq-zero-or-pos}
use native.Mathlib.Decide.{ℕ_discrete}
use native.Mathlib.Omega.{arith}
use lib.Dec.{eqb}
use Rattle.rules.specs.Numbers.Capacity.{max_tasks, nobody}
use Rattle.rules.specs.Numbers.Place.{at, greatest}
use Rattle.rules.specs.Schedulers.Elect.{earlier, earliest, elected}
use Rattle.rules.proofs.Numbers.Choice.{lt_or_le}
use Rattle.rules.proofs.Numbers.Place.{greatest_all, greatest_least, greatest_some}
use Rattle.rules.proofs.Schedulers.Rules.{earlier_nobody, earlier_later, earlier_sooner}
use Rattle.rules.proofs.Schedulers.Elect.{Lead, earliest_within, elected_none, elected_lead}
use Rattle.rules.specs.declared.state.State.{State}
use Rattle.tournament.specs.Tree.{tree_of, changed}
use Rattle.tournament.specs.Keys.{order_of, keys_of, who_of, word_of, tournament_of, root_of}
use Rattle.tournament.specs.Tournament.{IsTournamentOf}
use Rattle.tournament.specs.declared.tree.Tournament.{Tournament}
use Rattle.tournament.proofs.TreeLaws.{root_greatest}
use Rattle.tournament.proofs.KeyLaws.{key_none, key_some}

-- ---- ties go to the lower number, so the election by release numbers is that by orders, of which no two are equal

module _ (released kept : ℕ → ℕ) where
  order : ℕ → ℕ
  order x = order_of (released x) x

  earlier_order : (b k : ℕ) → k ≤ nobody → (b ≢ nobody → b < k) → earlier released b k ≡ earlier order b k
  unfolding order
  earlier_order b k h w = go (ℕ_discrete b nobody)
    where
      go : Dec (b ≡ nobody) → earlier released b k ≡ earlier order b k
      go (yes z) = rw z (earlier_nobody released k ∙ sym (earlier_nobody order k))
      go (no n) = ⊎_elim
          (λ (q : released k < released b). earlier_later released b k n q ∙ sym (earlier_later order b k n (omega (arith, w n))))
          (λ (q : released b ≤ released k). earlier_sooner released b k n q ∙ sym (earlier_sooner order b k n (omega (arith, w n))))
          (lt_or_le (released k) (released b))

  earliest_order : (g n : ℕ) → n ≤ nobody → earliest released kept g n ≡ earliest order kept g n
  unfolding earliest
  earliest_order g zero h = refl
  earliest_order g (suc k) h = ap₂ (λ a b. if eqb (kept k) g then a else b)
      (earlier_order (earliest released kept g k) k (omega arith) (earliest_within released kept g k) ∙ ap (λ b. earlier order b k) (earliest_order g k (omega arith)))
      (earliest_order g k (omega arith))

  elected_order : (n : ℕ) → n ≤ nobody → elected released kept n ≡ elected order kept n
  unfolding elected
  elected_order n h = ap (λ q. if eqb (greatest kept n) 0 then nobody else q) (earliest_order (greatest kept n) n h)

-- ---- the root, over release numbers of 32 bits and n tasks of 8

module _ (released kept : ℕ → ℕ) (n : ℕ) (few : n ≤ nobody) (early : (x : ℕ) → released x < 2 ^ 32) where
  abbrev root : ℕ
  root = greatest (keys_of released kept) n

  -- a task that waits, by its key
  waits : (x : ℕ) → kept x ≢ 0 → kept x * 2 ^ 40 + (2 ^ 40 - 1 - order_of (released x) x) ≡ keys_of released kept x
  unfolding keys_of
  waits x w = key_some (kept x) (released x) x w

  rests : (x : ℕ) → kept x ≡ 0 → 0 ≡ keys_of released kept x
  unfolding keys_of
  rests x z = key_none (kept x) (released x) x z

  key_word : (x : ℕ) → x < n → keys_of released kept x / 2 ^ 40 ≡ kept x
  key_word x l = ⊎_elim (λ z. omega (arith, rests x z)) (λ o. omega (arith, early x, waits x (λ z. omega arith))) (eq-zero-or-pos (kept x))

  root_word : root / 2 ^ 40 ≡ greatest kept n
  root_word = le_antisymm
      (⊎_elim (λ z. omega arith) (λ o. let (x, l, e) = greatest_some (keys_of released kept) n o in omega (arith, key_word x l, greatest_all kept n x l))
      (eq-zero-or-pos root))
      (greatest_least kept (root / 2 ^ 40) n (λ x l. omega (arith, key_word x l, greatest_all (keys_of released kept) n x l)))

  pub word_greatest : ((x : ℕ) → kept x < 2 ^ 8) → word_of root ≡ greatest kept n
  word_greatest small = omega (arith, root_word, greatest_least kept 255 n (λ x l. omega (arith, small x)))

  -- of the tasks of greatest kept priority the one whose key is the root goes before the others
  leads : (x q : ℕ) → x < n → keys_of released kept x ≡ root → kept x ≢ 0 → Lead (order released kept) kept (greatest kept n) n q → x ≡ q
  unfolding order
  leads x q l e w L =
      let k : kept x ≡ greatest kept n = omega (arith, key_word x l, root_word) in
      omega (
        arith,
        early x,
        early q,
        L.within,
        L.keyed,
        L.first x l k,
        waits x w,
        waits q (λ z. w (omega (arith, L.keyed))),
        greatest_all (keys_of released kept) n q L.within,
      )

  pub who_elected : who_of root ≡ elected released kept n
  who_elected = ⊎_elim
      (λ (z : root ≡ 0). omega (arith, elected_none released kept n few (omega (arith, root_word))))
      (λ (o : 0 < root). let (x, l, e) = greatest_some (keys_of released kept) n o in
      let w : kept x ≢ 0 = λ z. omega (arith, rests x z) in
      omega (
        arith,
        early x,
        waits x w,
        leads x (elected (order released kept) kept n) l e w (elected_lead (order released kept) kept n few (omega (arith, key_word x l, root_word))),
        elected_order released kept n few,
      ))
      (eq-zero-or-pos root)

-- ---- the tables

module _ (n : ℕ) (released kept : List ℕ) (few : n ≤ max_tasks) (root : ℕ) (says : root ≡ root_of n released kept) where
  pub root_elects : (r : ℕ) → ((x : ℕ) → at released x < 2 ^ 32) → r ≡ who_of root → r ≡ elected (at released) (at kept) n
  root_elects r early e = e ∙ ap who_of says ∙ who_elected (at released) (at kept) n (omega (arith, few)) early

  pub root_second : (k r : ℕ) → ((x : ℕ) → at released x < 2 ^ 32) → ((x : ℕ) → at kept x < 2 ^ 8) → k ≡ word_of root → r ≡ k → r ≡ greatest (at kept) n
  root_second k r early small e g = g ∙ e ∙ ap word_of says ∙ word_greatest (at released) (at kept) n (omega (arith, few)) early small

-- what stands at the top of a tournament
pub top_root : (n : ℕ) (released kept tree : List ℕ) (r : ℕ) → n ≤ max_tasks → tree ≡ tournament_of n released kept → r ≡ at tree 0 → r ≡ root_of n released kept
top_root n released kept tree r few held e = e ∙ ap (λ xs. at xs 0) held ∙ root_greatest n few (keys_of (at released) (at kept))

-- ---- the tournament of a state

module _ (n : ℕ) (tree : Tournament) (s : State) (T : IsTournamentOf n tree s) where
  pub tasks_few : n ≤ max_tasks
  tasks_few = omega (arith, tree.few, T.tasks)

  pub top_says : (top : ℕ) → top ≡ at tree.keys 0 → top ≡ root_of n s.released s.kept
  top_says top read = top_root n s.released s.kept tree.keys top tasks_few T.keys read

-- and where a key was put, what `put` answers
pub put_says : (n : ℕ) (tree after : Tournament) (s s₂ : State) (t key root : ℕ) → IsTournamentOf n tree s → IsTournamentOf n after s₂
    → ((f : ℕ → ℕ) → tree.keys ≡ tree_of tree.tasks f → after.keys ≡ tree_of tree.tasks (changed f t key))
    → ((f : ℕ → ℕ) → tree.keys ≡ tree_of tree.tasks f → root ≡ greatest (changed f t key) tree.tasks) → root ≡ root_of n s₂.released s₂.kept
put_says n tree after s s₂ t key root T A put says =
    let f : ℕ → ℕ = keys_of (at s.released) (at s.kept) in
    let e : tree.keys ≡ tree_of tree.tasks f = T.keys ∙ ap (λ m. tree_of m f) (sym T.tasks) in
    top_says n after s₂ A root (says f e ∙ sym (root_greatest tree.tasks tree.few (changed f t key)) ∙ ap (λ xs. at xs 0) (sym (put f e)))
