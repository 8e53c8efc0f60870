-- RULES 20.4 to 20.6: the promises of the reading of a job are kept. Assumes nothing.
use Rattle.std.specs.Prelude.{Ok}
use Rattle.rules.specs.Numbers.Verdict.{refused_at}
use mathlib.Core.Path.{◌≡◌, refl, sym, ◌∙◌, ap}
use mathlib.Core.List.{List, [], ◌∷◌, ◌++◌}
use Prim.Native.Nat.{ℕ, ◌+◌, ◌*◌, ◌-◌, ◌≤◌, ◌<◌}
use native.Mathlib.Omega.{arith}
use lib.Dec.{ltb}
use lib.ListN.{length, length-append, length-drop}
use borrow.Author.Tests.{ltb-true, ltb-false}
use Rattle.rules.specs.Numbers.Refusal.{number_of}
use Rattle.rules.specs.Numbers.Answer.{verdict_number, verdict_place}
use Rattle.rules.specs.declared.event.Event.{Event}
use Rattle.rules.specs.declared.event.Event.TheVariants.{Finish, Unlock}
use Rattle.rules.specs.declared.refusal.Refusal.TheVariants.{WrongJob, ShortSpace}
use Rattle.rules.proofs.Numbers.Choice.{by_test}
use Rattle.page.specs.Decimal.{digits}
use Rattle.page.proofs.Numbers.{digits_some}
use Rattle.jobs.specs.Grammar.{Body, Good, tail_of, text_of, events_in, events_of}
use Rattle.jobs.specs.Grammar.Body.{empty, work, section}
use Rattle.jobs.specs.Reader.{Answer, read_job}
use Rattle.jobs.specs.Reader.Answer.{refused, read}
use Rattle.jobs.specs.Job.{job_verdict, job_events, job_of, read_with}
use Rattle.jobs.specs.Promised.{Place, JobPromises}
use Rattle.jobs.proofs.Answers.{verdict_small, verdict_stopped, verdict_enough, events_read, job_refused, job_read, never}
use Rattle.jobs.proofs.Texts.{text_read, body_read, one_reading_lem}
use Rattle.jobs.proofs.Forms.{events_of_read, form_of_text, text_of_read}
use Rattle.jobs.proofs.Places.{refused_place, one_place_lem}

-- ---- what is accepted

-- by what the reader answers, and by whether there is space for it
by_reading : (P : Type 0) (text : List ℕ) (room : ℕ) → ((rest : List ℕ) → read_job text ≡ refused rest → P)
    → ((es : List Event) → read_job text ≡ read es → room < length es * 4 → P) → ((es : List Event) → read_job text ≡ read es → length es * 4 ≤ room → P) → P
by_reading P text room f g h = go (read_job text) refl
  where
    go : (r : Answer) → read_job text ≡ r → P
    go (refused rest) e = f rest e
    go (read es) e = by_test (ltb room (length es * 4)) (λ y. g es e (ltb-true room (length es * 4) y)) (λ y. h es e (ltb-false room (length es * 4) y))

accepted : (text : List ℕ) (room : ℕ) → job_verdict text room ≡ Ok tt → (b : Body) × Good 8 b × (text_of b ≡ text) × (job_events text room ≡ events_of b)
accepted text room h = by_reading _ text room
    (λ rest e. never (sym (verdict_stopped text rest room e) ∙ h))
    (λ es e l. never (sym (verdict_small text room es e l) ∙ h))
    (λ es e l. let (b, g, t, f) = events_of_read text es e in (b, g, t, events_read text room es e l ∙ f))

unfit : (text space : List ℕ) → ((b : Body) → Good 8 b → text_of b ≡ text → ⊥)
    → (n : ℕ) × Place text n × (job_of text space ≡ read_with (record { verdict = refused_at WrongJob n; events = 0 }) space)
unfit text space f = go (read_job text) refl
  where
    go : (r : Answer) → read_job text ≡ r → (n : ℕ) × Place text n × (job_of text space ≡ read_with (record { verdict = refused_at WrongJob n; events = 0 }) space)
    go (refused rest) e = (length text - length rest, refused_place text rest e, job_refused text space WrongJob (length text - length rest) (verdict_stopped text rest (length space) e))
    go (read es) e = let (b, g, h) = text_of_read text es e in absurd (f b g h)

-- two refusals that are the same
same_place : {m n : ℕ} → refused_at WrongJob m ≡ refused_at WrongJob n → m ≡ n
unfolding verdict_place
same_place {m} {n} e = ap verdict_place e

other_refusal : {P : Type 0} {m n : ℕ} → refused_at ShortSpace m ≡ refused_at WrongJob n → P
unfolding verdict_number number_of
other_refusal {m = m} {n} e = let z : ◌≡◌ {A = ℕ} 26 25 = ap verdict_number e in absurd (omega arith)

placed : (text : List ℕ) (room n : ℕ) → job_verdict text room ≡ refused_at WrongJob n → Place text n
placed text room n h = by_reading _ text room
    (λ rest e. let k : length text - length rest ≡ n = same_place (sym (verdict_stopped text rest room e) ∙ h) in rw (sym k) (refused_place text rest e))
    (λ es e l. other_refusal (sym (verdict_small text room es e l) ∙ h))
    (λ es e l. never (sym h ∙ verdict_enough text room es e l))

-- ---- how many events there are

-- an item has two bytes or more for each of its events, with the space before it
events_few : (b : Body) → length (events_in b) * 2 ≤ length (tail_of b)
unfolding events_in tail_of
events_few empty = omega arith
events_few (work n rest) = omega (arith, events_few rest, digits_some n, length-append (digits n) (tail_of rest))
events_few (section l inner rest) = omega (
  arith,
  events_few inner,
  events_few rest,
  digits_some l,
  length-append (events_in inner) (Unlock l ∷ events_in rest),
  length-append (digits l ++ tail_of inner) (93 ∷ tail_of rest),
  length-append (digits l) (tail_of inner),
)

few : (b : Body) → length (events_of b) * 4 ≤ length (text_of b) * 2 + 6
unfolding events_of text_of
few b = omega (arith, events_few b, length-append (events_in b) (Finish ∷ []), length-drop 1 (tail_of b))

enough : (text : List ℕ) (room : ℕ) → length text * 2 + 6 ≤ room → job_verdict text room ≡ refused_at ShortSpace 0 → ⊥
enough text room l h = by_reading _ text room
    (λ rest e. other_refusal (sym h ∙ verdict_stopped text rest room e))
    (λ es e s. let (b, g, t, f) = events_of_read text es e in omega (arith, few b, ap length t, ap length f))
    (λ es e s. never (sym h ∙ verdict_enough text room es e s))

-- ---- the promises

pub jobs_kept : JobPromises
jobs_kept = record {
  reads = record { one_reading = one_reading_lem; events_back = text_read; body_back = body_read; text_back = form_of_text };
  accepts = record {
    accepted = accepted;
    written = λ b space g l. job_read (text_of b) space (events_of b) (text_read b g) l;
    no_space = λ b space g l. job_refused (text_of b) space ShortSpace 0 (verdict_small (text_of b) (length space) (events_of b) (text_read b g) l);
    unfit = unfit;
    placed = placed;
    one_place = one_place_lem;
    enough = enough;
  };
}
