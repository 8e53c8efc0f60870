-- A tournament of n keys in an array. Place i, where i < n - 1, holds the greater of what places 2i + 1 and 2i + 2 hold; from place n - 1 on stand the keys;
-- so place 0 holds the greatest. The tree is as deep as n keys need. Assumes nothing.
use Rattle.std.specs.Prelude.{◌≡◌, List, ℕ, zero, suc, ◌+◌, ◌*◌, ◌-◌, ◌≤◌, ◌<◌, max, eqb, ltb, length, if◌then◌else◌}
use Rattle.rules.specs.Numbers.Capacity.{max_tasks}
use Rattle.rules.specs.Numbers.Place.{at, tabulate}

-- how many places the array has; src/tree.rt names the same number
abbrev pub places : ℕ
places = 2 * max_tasks - 1

-- how many places stand before the keys
abbrev pub inner : ℕ → ℕ
inner n = n - 1

-- the key at place i; 0 past the last
unfoldable pub key_at : ℕ → (ℕ → ℕ) → ℕ → ℕ
key_at n f i = if ltb (i - inner n) n then f (i - inner n) else 0

-- what place i holds, where no key is more than so many levels below it
unfoldable pub node_of : ℕ → (ℕ → ℕ) → ℕ → ℕ → ℕ
node_of n f zero i = key_at n f i
node_of n f (suc levels) i = if ltb i (inner n) then max (node_of n f levels (2 * i + 1)) (node_of n f levels (2 * i + 2)) else key_at n f i

-- the whole array: no tree of n keys has more than n levels
unfoldable pub tree_of : ℕ → (ℕ → ℕ) → List ℕ
tree_of n f = tabulate places (node_of n f n)

-- an array whose places from i on hold what they hold in the tree
abbrev pub TreeFrom : ℕ → (ℕ → ℕ) → ℕ → List ℕ → Type 0
TreeFrom n f i tree = (length tree ≡ places) × ((j : ℕ) → i ≤ j → j < places → at tree j ≡ at (tree_of n f) j)

-- f, but v at t
unfoldable pub changed : (ℕ → ℕ) → ℕ → ℕ → ℕ → ℕ
changed f t v x = if eqb x t then v else f x
