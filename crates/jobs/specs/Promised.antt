-- RULES 20.4 to 20.6: what is promised of the reading of a job. Assumes nothing.
use Rattle.std.specs.Prelude.{◌≡◌, List, ◌++◌, ℕ, ◌+◌, ◌*◌, ◌≤◌, ◌<◌, length, take, Ok}
use Rattle.rules.specs.Numbers.Verdict.{refused_at}
use Rattle.rules.specs.declared.refusal.Refusal.TheVariants.{WrongJob, ShortSpace}
use Rattle.jobs.specs.Grammar.{Body, levels, Good, text_of, events_of}
use Rattle.jobs.specs.Reader.{Answer, read_job}
use Rattle.jobs.specs.Tree.{Reading, read_body}
use Rattle.jobs.specs.Job.{job_verdict, job_events, read_with, with_events, job_of}

-- some text of a body begins so
unfoldable pub Begins : List ℕ → Type 0
Begins t = (b : Body) × (rest : List ℕ) × Good levels b × (text_of b ≡ t ++ rest)

-- the text is no body's, and n is the place of the first byte with which none goes on, or its length where all of it begins one
pub record Place (text : List ℕ) (n : ℕ) : Type 0 where
  pub within : n ≤ length text
  pub before : Begins (take n text)
  pub none : n < length text → Begins (take (n + 1) text) → ⊥
  pub unfit : (b : Body) → Good levels b → text_of b ≡ text → ⊥

-- a text is written and read
pub record ReadsAsWritten : Type 0 where
  -- no text has two readings
  pub one_reading : (a b : Body) → Good levels a → Good levels b → text_of a ≡ text_of b → a ≡ b
  -- what is printed of a body is read as its events, and as the body itself
  pub events_back : (b : Body) → Good levels b → read_job (text_of b) ≡ Answer.read (events_of b)
  pub body_back : (b : Body) → Good levels b → read_body (text_of b) ≡ Reading.form b
  -- what is printed of the body that was read is the text
  pub text_back : (text : List ℕ) (b : Body) → read_body text ≡ Reading.form b → Good levels b × (text_of b ≡ text)

-- what is accepted is the grammar, and a refusal's place is the one that RULES 20.4 says
pub record AcceptsTheGrammar : Type 0 where
  pub accepted : (text : List ℕ) (room : ℕ) → job_verdict text room ≡ Ok tt → (b : Body) × Good levels b × (text_of b ≡ text) × (job_events text room ≡ events_of b)
  pub written : (b : Body) (space : List ℕ) → Good levels b → length (events_of b) * 4 ≤ length space
      → job_of (text_of b) space ≡ read_with (record { verdict = Ok tt; events = length (events_of b) }) (with_events (events_of b) space)
  pub no_space : (b : Body) (space : List ℕ) → Good levels b → length space < length (events_of b) * 4
      → job_of (text_of b) space ≡ read_with (record { verdict = refused_at ShortSpace 0; events = 0 }) space
  pub unfit : (text space : List ℕ) → ((b : Body) → Good levels b → text_of b ≡ text → ⊥)
      → (n : ℕ) × Place text n × (job_of text space ≡ read_with (record { verdict = refused_at WrongJob n; events = 0 }) space)
  pub placed : (text : List ℕ) (room n : ℕ) → job_verdict text room ≡ refused_at WrongJob n → Place text n
  pub one_place : (text : List ℕ) (m n : ℕ) → Place text m → Place text n → m ≡ n
  -- so much space is always enough
  pub enough : (text : List ℕ) (room : ℕ) → length text * 2 + 6 ≤ room → job_verdict text room ≡ refused_at ShortSpace 0 → ⊥

pub record JobPromises : Type 0 where
  pub reads : ReadsAsWritten
  pub accepts : AcceptsTheGrammar
