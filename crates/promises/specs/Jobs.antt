-- RULES 20.3 to 20.5: what is promised of the reading of a job, said of what the code answers for a text and leaves in the space. Assumes nothing.
use Rattle.std.specs.Prelude.{◌≡◌, List, ℕ, ◌*◌, ◌≤◌, ◌<◌, length, Ok}
use Rattle.rules.specs.Numbers.Verdict.{Verdict, refused_at}
use Rattle.rules.specs.declared.refusal.Refusal.TheVariants.{WrongJob, ShortSpace}
use Rattle.jobs.specs.Grammar.{Body, levels, Good, text_of, events_of}
use Rattle.jobs.specs.Job.{Job, with_events}
use Rattle.jobs.specs.Promised.{Place}

-- a refusal answers no events, and leaves the space as it was
abbrev pub RefusedWith : Verdict → (space : List ℕ) → Job → (after : List ℕ) → Type 0
RefusedWith v space r after = (r.verdict ≡ v) × (r.events ≡ 0) × (after ≡ space)

pub record JobRead (text space : List ℕ) (r : Job) (after : List ℕ) : Type 0 where
  -- the text of a body, with space enough: its events, and after them what stood there
  pub written : (b : Body) → Good levels b → text_of b ≡ text → length (events_of b) * 4 ≤ length space
      → (r.verdict ≡ Ok tt) × (r.events ≡ length (events_of b)) × (after ≡ with_events (events_of b) space)
  -- with too little: 26
  pub no_space : (b : Body) → Good levels b → text_of b ≡ text → length space < length (events_of b) * 4 → RefusedWith (refused_at ShortSpace 0) space r after
  -- no body's text: 25, at its place
  pub unfit : ((b : Body) → Good levels b → text_of b ≡ text → ⊥) → (n : ℕ) × Place text n × RefusedWith (refused_at WrongJob n) space r after
  -- what is accepted is a body's text, and where 25 is given its place is the one
  pub accepted : r.verdict ≡ Ok tt → (b : Body) × Good levels b × (text_of b ≡ text)
  pub placed : (n : ℕ) → r.verdict ≡ refused_at WrongJob n → Place text n
