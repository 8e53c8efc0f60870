-- RULES 20.3: what the reading of a job answers: 25, 26 or its events, and the event space after it. Assumes nothing.
use Rattle.std.specs.Prelude.{List, [], ◌++◌, map, ℕ, Result, ◌*◌, ◌-◌, ltb, length, drop, Ok, Err, if◌then◌else◌}
use Rattle.rules.specs.Numbers.Verdict.{Verdict, refused_at}
use Rattle.rules.specs.Books.Event.{event_number}
use Rattle.rules.specs.Books.Bytes.{long_bytes}
use Rattle.rules.specs.declared.event.Event.{Event}
use Rattle.rules.specs.declared.answer.Fault.{Fault}
use Rattle.rules.specs.declared.refusal.Refusal.TheVariants.{WrongJob, ShortSpace}
use Rattle.jobs.specs.Reader.{Answer, read_job}

-- 25 at the byte where the reader stops, then 26: so many bytes of space are under four an event
unfoldable pub verdict_of : Answer → (text : List ℕ) → (room : ℕ) → Verdict
verdict_of (Answer.refused rest) text room = refused_at WrongJob (length text - length rest)
verdict_of (Answer.read es) text room = if ltb room (length es * 4) then refused_at ShortSpace 0 else Ok tt

-- the events of what is not refused
unfoldable pub given_by : Verdict → Answer → List Event
given_by (Ok _) (Answer.read es) = es
given_by (Ok _) (Answer.refused rest) = []
given_by (Err f) r = []

unfoldable pub job_verdict : (text : List ℕ) → (room : ℕ) → Verdict
job_verdict text room = verdict_of (read_job text) text room

unfoldable pub job_events : (text : List ℕ) → (room : ℕ) → List Event
job_events text room = given_by (job_verdict text room) (read_job text)

-- what the reading of a job comes to: what was refused, and how many events there are, 0 beside a refusal
pub record Job : Type 0 where
  pub verdict : Verdict
  pub events : ℕ

-- as the code answers it: how many, or what was refused
unfoldable pub job_with : Result ℕ Fault → Job
job_with (Ok n) = record { verdict = Ok tt; events = n }
job_with (Err f) = record { verdict = Err f; events = 0 }

unfoldable pub job_answer : (text : List ℕ) → (room : ℕ) → Job
job_answer text room = record { verdict = job_verdict text room; events = length (job_events text room) }

-- the events as the records of an event body
abbrev pub records_of : List Event → List ℕ
records_of es = long_bytes (map event_number es)

-- the answer, and the space: the events' records at its start, and after them what stood there; so a refusal leaves all of it
pub record ReadInto : Type 0 where
  pub answer : Job
  pub space : List ℕ

abbrev pub read_with : Job → List ℕ → ReadInto
read_with answer space = record { answer = answer; space = space }

abbrev pub with_events : List Event → List ℕ → List ℕ
with_events es space = records_of es ++ drop (length es * 4) space

unfoldable pub job_of : (text space : List ℕ) → ReadInto
job_of text space = read_with (job_answer text (length space)) (with_events (job_events text (length space)) space)
