-- RULES 20.3, 20.4: a job's text read byte by byte: its events, or what is left of it where no text of a body goes on so. Assumes nothing.
use Rattle.std.specs.Prelude.{List, [], ◌∷◌, ◌++◌, ℕ, ◌+◌, ◌*◌, ◌-◌, eqb, ltb, length, if◌then◌else◌}
use Rattle.rules.specs.declared.event.Event.{Event}
use Rattle.rules.specs.declared.event.Event.TheVariants.{Acquire, Unlock, Work, Finish}
use Rattle.jobs.specs.Grammar.{max_units, max_lock, levels, letter_byte, left_byte, right_byte, gap_byte}

-- what a byte stands for
pub data Mark : Type 0 where
  letter : Mark
  left : Mark
  right : Mark
  gap : Mark
  other : Mark

pub data Sign : Type 0 where
  digit : ℕ → Sign
  mark : Mark → Sign

unfoldable pub mark_of : ℕ → Mark
mark_of b =
    if eqb b letter_byte then letter
    else if eqb b left_byte then left
    else if eqb b right_byte then right
    else if eqb b gap_byte then gap
    else other

unfoldable pub sign : ℕ → Sign
sign b = if ltb b 48 then mark (mark_of b) else if ltb 57 b then mark (mark_of b) else digit (b - 48)

-- where the reader stands: before an item; in units, 0 before their first digit; behind `[`; in a lock's number; behind an item or a lock's number
pub data Mode : Type 0 where
  fresh : Mode
  units : ℕ → Mode
  bracket : Mode
  lock : ℕ → Mode
  after : Mode

-- a byte stops the reader, or leads on: the new mode, the locks of the sections that it stands in, innermost first, and the events that the byte completes
pub data Move : Type 0 where
  stop : Move
  move : Mode → List ℕ → List Event → Move

-- behind an item, with events that are complete there: one more item, or the section's end
unfoldable pub behind : Mark → List ℕ → List Event → Move
behind letter ls es = stop
behind left ls es = stop
behind right [] es = stop
behind right (l ∷ ls) es = move after ls (es ++ Unlock l ∷ [])
behind gap ls es = move fresh ls es
behind other ls es = stop

unfoldable pub begin : Sign → List ℕ → Move
begin (digit d) ls = stop
begin (mark letter) ls = move (units 0) ls []
begin (mark left) ls = if ltb (length ls) levels then move bracket ls [] else stop
begin (mark right) ls = stop
begin (mark gap) ls = stop
begin (mark other) ls = stop

unfoldable pub in_units : Sign → ℕ → List ℕ → Move
in_units (digit d) v ls = if eqb (v * 10 + d) 0 then stop else if ltb max_units (v * 10 + d) then stop else move (units (v * 10 + d)) ls []
in_units (mark m) v ls = if eqb v 0 then stop else behind m ls (Work v ∷ [])

unfoldable pub in_bracket : Sign → List ℕ → Move
in_bracket (digit d) ls = move (lock d) ls []
in_bracket (mark m) ls = stop

unfoldable pub in_lock : Sign → ℕ → List ℕ → Move
in_lock (digit d) v ls = if eqb v 0 then stop else if ltb max_lock (v * 10 + d) then stop else move (lock (v * 10 + d)) ls []
in_lock (mark m) v ls = behind m (v ∷ ls) (Acquire v ∷ [])

unfoldable pub behind_sign : Sign → List ℕ → Move
behind_sign (digit d) ls = stop
behind_sign (mark m) ls = behind m ls []

unfoldable pub step : Mode → Sign → List ℕ → Move
step fresh s ls = begin s ls
step (units v) s ls = in_units s v ls
step bracket s ls = in_bracket s ls
step (lock v) s ls = in_lock s v ls
step after s ls = behind_sign s ls

-- what is left where the reader stops, or the events
pub data Answer : Type 0 where
  refused : List ℕ → Answer
  read : List Event → Answer

unfoldable pub prepend : List Event → Answer → Answer
prepend es (refused rest) = refused rest
prepend es (read fs) = read (es ++ fs)

-- the text's end: right behind an item outside every section
unfoldable pub ends : List ℕ → Answer
ends [] = read (Finish ∷ [])
ends (l ∷ ls) = refused []

unfoldable pub ends_in : Mode → List ℕ → Answer
ends_in fresh ls = refused []
ends_in (units v) ls = if eqb v 0 then refused [] else prepend (Work v ∷ []) (ends ls)
ends_in bracket ls = refused []
ends_in (lock v) ls = refused []
ends_in after ls = ends ls

unfoldable pub onward : Move → List ℕ → (Mode → List ℕ → Answer) → Answer
onward stop rest k = refused rest
onward (move m ls es) rest k = prepend es (k m ls)

unfoldable pub run : List ℕ → Mode → List ℕ → Answer
run [] m ls = ends_in m ls
run (b ∷ t) m ls = onward (step m (sign b) ls) (b ∷ t) (λ m' ls'. run t m' ls')

-- a whole text: the empty one is a job of no items
unfoldable pub read_job : List ℕ → Answer
read_job [] = read (Finish ∷ [])
read_job (b ∷ t) = run (b ∷ t) fresh []
