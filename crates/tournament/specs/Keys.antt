-- A task's key: the greater kept priority goes first, then the earlier release, then the lower number. Assumes nothing.
use Rattle.std.specs.Prelude.{List, ℕ, ◌+◌, ◌*◌, ◌-◌, ◌/◌, ◌%◌, ◌^◌, eqb, if◌then◌else◌}
use Rattle.rules.specs.Numbers.Capacity.{nobody}
use Rattle.rules.specs.Numbers.Place.{at, greatest}
use Rattle.tournament.specs.Tree.{tree_of}

-- of two tasks the one of lesser order goes first; release numbers are below 2^32 and tasks below 2^8
abbrev pub order_of : ℕ → ℕ → ℕ
order_of released t = released * 2 ^ 8 + t

-- the key of task t; 0 where nothing is kept for it
unfoldable pub key_of : ℕ → ℕ → ℕ → ℕ
key_of kept released t = if eqb kept 0 then 0 else kept * 2 ^ 40 + (2 ^ 40 - 1 - order_of released t)

-- the keys of all tasks
unfoldable pub keys_of : (ℕ → ℕ) → (ℕ → ℕ) → ℕ → ℕ
keys_of released kept x = key_of (kept x) (released x) x

-- the task and the kept priority of a key: nobody and 0 of the key 0
abbrev pub who_of : ℕ → ℕ
who_of key = nobody - key % 2 ^ 8

abbrev pub word_of : ℕ → ℕ
word_of key = key / 2 ^ 40 % 2 ^ 8

-- the tournament of the first n tasks, by their release numbers and kept priorities
abbrev pub tournament_of : ℕ → List ℕ → List ℕ → List ℕ
tournament_of n released kept = tree_of n (keys_of (at released) (at kept))

-- its root: the greatest of their keys
abbrev pub root_of : ℕ → List ℕ → List ℕ → ℕ
root_of n released kept = greatest (keys_of (at released) (at kept)) n
