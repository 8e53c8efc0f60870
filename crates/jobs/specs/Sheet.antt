-- Event records in lent space, as the code lays them one by one and reads them again. Assumes nothing.
use Rattle.std.specs.Prelude.{List, [], ◌∷◌, ℕ, ◌+◌, ◌*◌, ◌/◌, ltb, length, if◌then◌else◌}
use Rattle.rules.specs.Numbers.Place.{stored}
use Rattle.rules.specs.Books.Book.{long}
use Rattle.rules.specs.Books.Bytes.{four}
use Rattle.rules.specs.Books.Event.{event_number}
use Rattle.rules.specs.declared.event.Event.{Event}
use Rattle.jobs.specs.Reader.{Answer}

-- the number w as record n, where it fits; and the number of record n, 0 where there is none
unfoldable pub with_record : List ℕ → ℕ → ℕ → List ℕ
with_record space n w = if ltb n (length space / 4) then stored space (n * 4) (four w) else space

unfoldable pub record_in : List ℕ → ℕ → ℕ
record_in space n = if ltb n (length space / 4) then long space (n * 4) else 0

-- space, and how many records have come: one that does not fit is counted and not written
pub record Sheet : Type 0 where
  pub bytes : List ℕ
  pub count : ℕ

abbrev pub sheet : List ℕ → ℕ → Sheet
sheet bytes count = record { bytes = bytes; count = count }

unfoldable pub lay : Sheet → Event → Sheet
lay p e = sheet (with_record p.bytes p.count (event_number e)) (p.count + 1)

unfoldable pub lay_all : Sheet → List Event → Sheet
lay_all p [] = p
lay_all p (e ∷ es) = lay_all (lay p e) es

-- what the reader answers, with the events on a sheet
pub data Told : Type 0 where
  halted : List ℕ → Told
  done : Sheet → Told

unfoldable pub tell : Sheet → Answer → Told
tell p (Answer.refused rest) = halted rest
tell p (Answer.read es) = done (lay_all p es)
