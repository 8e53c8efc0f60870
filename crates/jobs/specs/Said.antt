-- What the contracts of the private readers say: the reader's answer from a place on is that from a later place on. Assumes nothing.
use Rattle.std.specs.Prelude.{◌≡◌, List, [], ◌∷◌, ℕ, ◌+◌, ◌≤◌, length, drop, Option, Some, None, Result, Ok, Err}
use Rattle.rules.specs.Numbers.Place.{at}
use Rattle.rules.specs.declared.event.Event.TheVariants.{Acquire, Work}
use Rattle.jobs.specs.declared.text.Number.{Number}
use Rattle.jobs.specs.declared.read.At.{At}
use Rattle.jobs.specs.Grammar.{levels, gap_byte}
use Rattle.jobs.specs.Reader.{Sign, Mode, Answer, sign, prepend, run}
use Rattle.jobs.specs.Reader.Mode.{fresh, units, bracket, after}
use Rattle.jobs.specs.Reader.Sign.{digit, mark}
use Rattle.jobs.specs.Sheet.{Sheet, sheet, Told, halted, done, tell}

unfoldable pub sign_at : List ℕ → ℕ → Sign
sign_at text a = sign (at text a)

-- the digit at a place
unfoldable pub digit_of : Sign → Option ℕ
digit_of (digit d) = Some d
digit_of (mark m) = None

-- from place a in mode m with the sheet p, at any depth, to behind an item with the bytes q; or the reader stops
unfoldable pub then_on : Result At ℕ → List ℕ → List ℕ → List ℕ → Told
then_on (Ok s) text q ls = tell (sheet q s.count) (run (drop s.place text) after ls)
then_on (Err b) text q ls = halted (drop b text)

unfoldable pub Went : List ℕ → ℕ → Mode → Sheet → Result At ℕ → List ℕ → Type 0
Went text a m p r q = (ls : List ℕ) → tell p (run (drop a text) m ls) ≡ then_on r text q ls

-- the same from before an item, with k more levels; and from there to place i before another one
unfoldable pub Did : List ℕ → ℕ → ℕ → Sheet → Result At ℕ → List ℕ → Type 0
Did text k a p r q = (ls : List ℕ) → length ls + k ≡ levels → tell p (run (drop a text) fresh ls) ≡ then_on r text q ls

unfoldable pub Came : List ℕ → ℕ → ℕ → Sheet → ℕ → Sheet → Type 0
Came text k a p i q = (ls : List ℕ) → length ls + k ≡ levels → tell p (run (drop a text) fresh ls) ≡ tell q (run (drop i text) fresh ls)

-- units, and a lock's number, that start at place a
unfoldable pub then_units : Result Number ℕ → List ℕ → List ℕ → Answer
then_units (Ok n) text ls = prepend (Work n.value ∷ []) (run (drop n.place text) after ls)
then_units (Err b) text ls = Answer.refused (drop b text)

unfoldable pub Counted : List ℕ → ℕ → Result Number ℕ → Type 0
Counted text a r = (ls : List ℕ) → run (drop a text) (units 0) ls ≡ then_units r text ls

unfoldable pub then_lock : Result Number ℕ → List ℕ → List ℕ → Answer
then_lock (Ok n) text ls = prepend (Acquire n.value ∷ []) (run (drop n.place text) after (n.value ∷ ls))
then_lock (Err b) text ls = Answer.refused (drop b text)

unfoldable pub Numbered : List ℕ → ℕ → Result Number ℕ → Type 0
Numbered text a r = (ls : List ℕ) → run (drop a text) bracket ls ≡ then_lock r text ls

-- a section's lock, with its acquire laid; and its end, with its unlock laid, where no item follows
unfoldable pub then_in : Result Number ℕ → List ℕ → Sheet → List ℕ → Told
then_in (Ok n) text q ls = tell q (run (drop n.place text) after (n.value ∷ ls))
then_in (Err b) text q ls = halted (drop b text)

unfoldable pub Entered : List ℕ → ℕ → Sheet → Result Number ℕ → Sheet → Type 0
Entered text a p r q = (ls : List ℕ) → tell p (run (drop a text) bracket ls) ≡ then_in r text q ls

unfoldable pub Left : List ℕ → ℕ → ℕ → Sheet → Result At ℕ → List ℕ → Type 0
Left text a v p r q = (at text a ≡ gap_byte → ⊥) → (ls : List ℕ) → tell p (run (drop a text) after (v ∷ ls)) ≡ then_on r text q ls

-- no item follows a body that was read
unfoldable pub Over : List ℕ → Result At ℕ → Type 0
Over text r = (s : At) → r ≡ Ok s → at text s.place ≡ gap_byte → ⊥

-- the whole text
unfoldable pub whole : Result ℕ ℕ → List ℕ → List ℕ → Told
whole (Ok n) text q = done (sheet q n)
whole (Err b) text q = halted (drop b text)

-- where the reader stands or stopped, and the count of events, 0 where it stopped
abbrev pub number_end : Result Number ℕ → ℕ
number_end (Ok n) = n.place
number_end (Err b) = b

abbrev pub end : Result At ℕ → ℕ
end (Ok s) = s.place
end (Err b) = b

abbrev pub count : Result At ℕ → ℕ
count (Ok s) = s.count
count (Err b) = 0

-- places and counts stay within the text
pub record Within (text : List ℕ) (a place count : ℕ) : Type 0 where
  pub later : a ≤ place
  pub inside : place ≤ length text
  pub fewer : count ≤ place
