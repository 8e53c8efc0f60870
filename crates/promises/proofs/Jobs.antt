-- What is promised of the reading of a job, said of the code. Assumes nothing.
use Rattle.std.specs.Prelude.{Result, Ok}
use Rattle.rules.specs.Numbers.Verdict.{Verdict, refused_at}
use mathlib.Core.Path.{◌≡◌, sym, ◌∙◌, ap}
use mathlib.Core.List.{List}
use Prim.Native.Nat.{ℕ}
use contract.Lifetimes.{Lfts}
use lib.ListN.{length}
use Rattle.rules.specs.declared.refusal.Refusal.TheVariants.{WrongJob, ShortSpace}
use Rattle.jobs.specs.Grammar.{events_of}
use Rattle.jobs.specs.Job.{Job, job_with, job_verdict, job_answer, ReadInto, read_with, with_events, job_of}
use Rattle.jobs.specs.Promised.{AcceptsTheGrammar}
use Rattle.rules.specs.declared.answer.Fault.{Fault}
use Rattle.jobs.proofs.Kept.{jobs_kept}
use Rattle.jobs.proofs.read_job.Reads as read-job
use Rattle.promises.specs.Jobs.{JobRead}

abbrev kept : AcceptsTheGrammar
kept = jobs_kept.accepts

module _ (text space : List ℕ) (r : Job) (after : List ℕ) (h : read_with r after ≡ job_of text space) where
  as_said : (v : Verdict) (n : ℕ) (s : List ℕ) → job_of text space ≡ read_with (record { verdict = v; events = n }) s → (r.verdict ≡ v) × (r.events ≡ n) × (after ≡ s)
  as_said v n s e = (
    ap (λ (x : ReadInto). x.answer.verdict) (h ∙ e),
    ap (λ (x : ReadInto). x.answer.events) (h ∙ e),
    ap (λ (x : ReadInto). x.space) (h ∙ e),
  )

  told : r.verdict ≡ job_verdict text (length space)
  unfolding job_of job_answer
  told = ap (λ (x : ReadInto). x.answer.verdict) h

  keeps : JobRead text space r after
  keeps = record {
    written = λ b g e l. as_said (Ok tt) (length (events_of b)) (with_events (events_of b) space) (ap (λ t. job_of t space) (sym e) ∙ kept.written b space g l);
    no_space = λ b g e l. as_said (refused_at ShortSpace 0) 0 space (ap (λ t. job_of t space) (sym e) ∙ kept.no_space b space g l);
    unfit = λ f. let (n, p, e) = kept.unfit text space f in (n, p, as_said (refused_at WrongJob n) 0 space e);
    accepted = λ e. let (b, g, t, f) = kept.accepted text (length space) (sym told ∙ e) in (b, g, t);
    placed = λ n e. kept.placed text (length space) n (sym told ∙ e);
  }

pub job_keeps : (κs : Lfts 2) (a : _) (b : _) (r : Result ℕ Fault) → read-job.Post κs a r b → JobRead a.0.now a.1.0.now (job_with r) b.1.0.now
job_keeps κs a b r h = keeps a.0.now a.1.0.now (job_with r) b.1.0.now h
