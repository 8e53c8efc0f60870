-- The body of a text, from the events that the reader gives. Assumes nothing.
use Rattle.std.specs.Prelude.{List, [], ◌∷◌, ℕ}
use Rattle.rules.specs.declared.event.Event.{Event}
use Rattle.rules.specs.declared.event.Event.TheVariants.{Release, Acquire, Unlock, Work, Finish, Tick}
use Rattle.jobs.specs.Grammar.{Body}
use Rattle.jobs.specs.Grammar.Body.{empty, work, section}
use Rattle.jobs.specs.Reader.{Answer, read_job}

-- the items of a body, and after them those of another
unfoldable pub followed : Body → Body → Body
followed empty b = b
followed (work n rest) b = work n (followed rest b)
followed (section l inner rest) b = section l inner (followed rest b)

-- a section that is not at its end: its lock, and the items before it
pub record Frame : Type 0 where
  pub held : ℕ
  pub before : Body

abbrev pub frame : ℕ → Body → Frame
frame l b = record { held = l; before = b }

-- events go on from the items read so far, inside sections, innermost first; a job's events have no release and no tick
unfoldable pub grown : List Event → Body → List Frame → Body
grown [] b fs = b
grown (Release t ∷ es) b fs = grown es b fs
grown (Acquire l ∷ es) b fs = grown es empty (frame l b ∷ fs)
grown (Unlock l ∷ es) b [] = grown es b []
grown (Unlock l ∷ es) b (f ∷ fs) = grown es (followed f.before (section f.held b empty)) fs
grown (Work n ∷ es) b fs = grown es (followed b (work n empty)) fs
grown (Finish ∷ es) b fs = grown es b fs
grown (Tick ∷ es) b fs = grown es b fs

-- the body, or what is left of a text that is none's
pub data Reading : Type 0 where
  wrong : List ℕ → Reading
  form : Body → Reading

unfoldable pub reading_of : Answer → Reading
reading_of (Answer.refused rest) = wrong rest
reading_of (Answer.read es) = form (grown es empty [])

unfoldable pub read_body : List ℕ → Reading
read_body text = reading_of (read_job text)
