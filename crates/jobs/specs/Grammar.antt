-- RULES 20.1, 20.2: bodies, apart from any reader: which are well formed, their texts and their events. Assumes nothing.
use Rattle.std.specs.Prelude.{List, [], ◌∷◌, ◌++◌, ℕ, suc, ◌≤◌, drop}
use Rattle.rules.specs.declared.event.Event.{Event}
use Rattle.rules.specs.declared.event.Event.TheVariants.{Acquire, Unlock, Work, Finish}
use Rattle.page.specs.Decimal.{digits}

-- a body is a run of items: none, or a first item and the items after it. An item is work of so many units, or a section of a lock that holds a body
pub data Body : Type 0 where
  empty : Body
  work : ℕ → Body → Body
  section : ℕ → Body → Body → Body

-- the most units of one work, the greatest lock, and how many sections may stand one in another. src/form.rt names the same
abbrev pub max_units : ℕ
max_units = 65_535

abbrev pub max_lock : ℕ
max_lock = 31

abbrev pub levels : ℕ
levels = 8

-- units from 1 on, and neither they, the locks nor the levels above what may be; k levels are left
pub data Good : ℕ → Body → Type 0 where
  good_empty : {k : ℕ} → Good k empty
  good_work : {k n : ℕ} {rest : Body} → 1 ≤ n → n ≤ max_units → Good k rest → Good k (work n rest)
  good_section : {k l : ℕ} {inner rest : Body} → l ≤ max_lock → Good k inner → Good (suc k) rest → Good (suc k) (section l inner rest)

-- ---- the text

-- `w`, `[`, `]` and the space
abbrev pub letter_byte : ℕ
letter_byte = 119

abbrev pub left_byte : ℕ
left_byte = 91

abbrev pub right_byte : ℕ
right_byte = 93

abbrev pub gap_byte : ℕ
gap_byte = 32

-- the items, each after a single space: ` w` and the units, or ` [`, the lock, the body and `]`
unfoldable pub tail_of : Body → List ℕ
tail_of empty = []
tail_of (work n rest) = gap_byte ∷ letter_byte ∷ digits n ++ tail_of rest
tail_of (section l inner rest) = gap_byte ∷ left_byte ∷ digits l ++ tail_of inner ++ right_byte ∷ tail_of rest

-- the same with no space before the first
unfoldable pub text_of : Body → List ℕ
text_of b = drop 1 (tail_of b)

-- ---- the events

unfoldable pub events_in : Body → List Event
events_in empty = []
events_in (work n rest) = Work n ∷ events_in rest
events_in (section l inner rest) = Acquire l ∷ events_in inner ++ Unlock l ∷ events_in rest

-- of a job: those of its body, and the finish
unfoldable pub events_of : Body → List Event
events_of b = events_in b ++ Finish ∷ []
