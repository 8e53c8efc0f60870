-- What composing leaves in the two buffers that it is lent: the book's length, the buffer with the book, and the page with the line that says why there
-- is none. Assumes nothing.
use Rattle.std.specs.Prelude.{List, ℕ, min, max, length, ◌+◌}
use Rattle.rules.specs.Numbers.Place.{stored}
use Rattle.office.specs.Compose.{Composed}

-- bytes, and how many of them are the line
pub record Said : Type 0 where
  pub bytes : List ℕ
  pub place : ℕ

abbrev pub page : List ℕ → ℕ → Said
page bytes place = record { bytes = bytes; place = place }

-- a text at that place, cut where the bytes end; past their end nothing is put, and the place stays
abbrev pub said_on : Said → List ℕ → Said
said_on p text = page (stored p.bytes p.place text) (max p.place (min (p.place + length text) (length p.bytes)))

pub record Answered : Type 0 where
  pub length : ℕ
  pub bytes : List ℕ
  pub said : Said

abbrev pub answered : ℕ → List ℕ → Said → Answered
answered length bytes said = record { length = length; bytes = bytes; said = said }

-- the line is typed at the start of its page
abbrev pub answer_of : Composed → Said → Answered
answer_of c p = answered c.length c.bytes (said_on p c.said)
