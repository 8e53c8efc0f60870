-- RULES 2: how much the recorder holds. src/capacity.rt names the same numbers for the code. Assumes nothing.
use Rattle.std.specs.Prelude.{ℕ}

-- the most tasks, locks and uses of a plan, and the most events of a book
abbrev pub max_tasks : ℕ
max_tasks = 200

abbrev pub max_locks : ℕ
max_locks = 32

abbrev pub max_uses : ℕ
max_uses = 6_400

abbrev pub max_events : ℕ
max_events = 12_000

-- the most takes that one task has at a time, of one lock or of several
abbrev pub max_takes : ℕ
max_takes = 8

-- the most events that a state may have accepted
abbrev pub max_accepted : ℕ
max_accepted = 1_000_000

-- where the count of a delay stays
abbrev pub max_delay : ℕ
max_delay = 65_535

-- the running task where nobody runs
abbrev pub nobody : ℕ
nobody = 255
