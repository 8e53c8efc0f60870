-- The ways through the code that answers: the text is read into no space, and where nothing is refused into the space that is lent. Assumes nothing.
use mathlib.Core.Path.{◌≡◌, refl, sym, ◌∙◌, ap}
use mathlib.Core.List.{List, [], ◌++◌, map}
use Prim.Native.Nat.{ℕ, ◌*◌, ◌-◌, ◌/◌, ◌≤◌, ◌<◌}
use native.Mathlib.Omega.{arith}
use lib.Dec.{ltb}
use lib.ListN.{length, drop, length-drop, length-map}
use borrow.Author.Tests.{lt-ltb, le-ltb, ltb-true, ltb-false}
use Rattle.std.specs.Prelude.{Result, Ok, Err}
use Rattle.rules.specs.Numbers.Verdict.{fault_at, refused_at}
use Rattle.rules.specs.Books.Bytes.{long_bytes}
use Rattle.rules.specs.Books.Event.{event_number}
use Rattle.rules.specs.declared.event.Event.{Event}
use Rattle.rules.specs.declared.refusal.Refusal.{Refusal}
use Rattle.rules.specs.declared.refusal.Refusal.TheVariants.{WrongJob, ShortSpace}
use Rattle.rules.proofs.Numbers.Choice.{if_true, if_false, by_test}
use Rattle.rules.proofs.Numbers.Stored.{stored_front}
use Rattle.rules.proofs.Books.Told.{apart, fault_same}
use Rattle.rules.proofs.Books.ReadBack.{long_size}
use Rattle.rules.specs.declared.answer.Fault.{Fault}
use Rattle.jobs.specs.Reader.{Answer, read_job}
use Rattle.jobs.specs.Reader.Answer.{refused, read}
use Rattle.jobs.specs.Job.{verdict_of, given_by, job_verdict, job_events, Job, job_with, job_answer, records_of, read_with, with_events, job_of}
use Rattle.jobs.specs.Sheet.{Sheet, sheet, lay_all, halted, done, tell}
use Rattle.jobs.specs.Said.{whole}
use Rattle.jobs.proofs.Sheets.{lay_count, lay_fits}

-- ---- what was told, and what the reader answers

told_halted : (r : Answer) (p : Sheet) (rest : List ℕ) → tell p r ≡ halted rest → r ≡ refused rest
unfolding tell
told_halted (refused x) p rest e = cc
told_halted (read es) p rest e = let z : ◌≡◌ {A = ℕ} 0 1 = cc in absurd (omega arith)

told_done : (r : Answer) (p q : Sheet) → tell p r ≡ done q → (es : List Event) × (r ≡ read es) × (lay_all p es ≡ q)
unfolding tell
told_done (refused x) p q e = let z : ◌≡◌ {A = ℕ} 0 1 = cc in absurd (omega arith)
told_done (read es) p q e = (es, refl, cc)

-- ---- the answer for so much room

pub records_size : (es : List Event) → length (records_of es) ≡ length es * 4
records_size es = long_size (map event_number es) ∙ ap (λ n. n * 4) (length-map es event_number)

answer_read : (text : List ℕ) (room : ℕ) (es : List Event) → read_job text ≡ read es → length es * 4 ≤ room → job_answer text room ≡ record { verdict = Ok tt; events = length es }
unfolding job_answer job_events job_verdict verdict_of given_by
answer_read text room es h l =
    let v : verdict_of (read es) text room ≡ Ok tt = if_false (ltb room (length es * 4)) _ _ (le-ltb room (length es * 4) l) in
    rw (h, v)

pub verdict_small : (text : List ℕ) (room : ℕ) (es : List Event) → read_job text ≡ read es → room < length es * 4 → job_verdict text room ≡ refused_at ShortSpace 0
unfolding job_verdict verdict_of
verdict_small text room es h l = rw h (if_true (ltb room (length es * 4)) _ _ (lt-ltb room (length es * 4) l))

pub verdict_stopped : (text rest : List ℕ) (room : ℕ) → read_job text ≡ refused rest → job_verdict text room ≡ refused_at WrongJob (length text - length rest)
unfolding job_verdict verdict_of
verdict_stopped text rest room h = rw h

pub verdict_enough : (text : List ℕ) (room : ℕ) (es : List Event) → read_job text ≡ read es → length es * 4 ≤ room → job_verdict text room ≡ Ok tt
unfolding job_verdict verdict_of
verdict_enough text room es h l = rw h (if_false (ltb room (length es * 4)) _ _ (le-ltb room (length es * 4) l))

-- a refusal answers no events, and leaves the space
pub no_events : (text : List ℕ) (room : ℕ) (why : Refusal) (place : ℕ) → job_verdict text room ≡ refused_at why place → job_events text room ≡ []
unfolding job_events given_by
no_events text room why place h = ap (λ v. given_by v (read_job text)) h

pub events_read : (text : List ℕ) (room : ℕ) (es : List Event) → read_job text ≡ read es → length es * 4 ≤ room → job_events text room ≡ es
unfolding job_events given_by
events_read text room es h l = ap (λ v. given_by v (read_job text)) (verdict_enough text room es h l) ∙ ap (given_by (Ok tt)) h

answer_refused : (text : List ℕ) (room : ℕ) (why : Refusal) (place : ℕ) → job_verdict text room ≡ refused_at why place
    → job_answer text room ≡ record { verdict = refused_at why place; events = 0 }
unfolding job_answer
answer_refused text room why place h = rw (no_events text room why place h, h)

pub job_refused : (text space : List ℕ) (why : Refusal) (place : ℕ) → job_verdict text (length space) ≡ refused_at why place
    → job_of text space ≡ read_with (record { verdict = refused_at why place; events = 0 }) space
unfolding job_of long_bytes
job_refused text space why place h =
    ap (λ a. read_with a (with_events (job_events text (length space)) space)) (answer_refused text (length space) why place h)
    ∙ ap (λ es. read_with (record { verdict = refused_at why place; events = 0 }) (with_events es space)) (no_events text (length space) why place h)

pub job_read : (text space : List ℕ) (es : List Event) → read_job text ≡ read es → length es * 4 ≤ length space
    → job_of text space ≡ read_with (record { verdict = Ok tt; events = length es }) (with_events es space)
unfolding job_of
job_read text space es h l =
    ap (λ a. read_with a (with_events (job_events text (length space)) space)) (answer_read text (length space) es h l)
    ∙ ap (λ x. read_with (record { verdict = Ok tt; events = length es }) (with_events x space)) (events_read text (length space) es h l)

-- a refusal is no pass
pub never : {P : Type 0} {why : Refusal} {place : ℕ} → refused_at why place ≡ Ok tt → P
never {why = why} {place} e = let z : ◌≡◌ {A = ℕ} 0 1 = cc in absurd (omega arith)

-- ---- as `check_job` goes

module _ (text : List ℕ) (room : ℕ) (r : Result ℕ ℕ) (t t' : List ℕ) (h : tell (sheet t 0) (read_job text) ≡ whole r text t') where
  counted : (n : ℕ) → r ≡ Ok n → (es : List Event) × (read_job text ≡ read es) × (n ≡ length es)
  unfolding whole
  counted n o =
      let (es, r, g) = told_done (read_job text) (sheet t 0) (sheet t' n) (h ∙ ap (λ x. whole x text t') o) in
      (es, r, sym (ap (λ q. q.count) g) ∙ lay_count es (sheet t 0) ∙ omega arith)

  pub check_stopped : (place : ℕ) → r ≡ Err place → place ≤ length text → job_with (Err (fault_at WrongJob place)) ≡ job_answer text room
  unfolding whole job_with
  check_stopped place o l =
      let r : read_job text ≡ refused (drop place text) = told_halted (read_job text) (sheet t 0) (drop place text) (h ∙ ap (λ x. whole x text t') o) in
      let e : length text - length (drop place text) ≡ place = omega (arith, length-drop place text) in
      sym (answer_refused text room WrongJob place (verdict_stopped text (drop place text) room r ∙ ap (refused_at WrongJob) e))

  pub check_small : (n : ℕ) → r ≡ Ok n → room / 4 < n → job_with (Err (fault_at ShortSpace 0)) ≡ job_answer text room
  unfolding job_with
  check_small n o l =
      let (es, r, e) = counted n o in
      sym (answer_refused text room ShortSpace 0 (verdict_small text room es r (omega arith)))

  pub check_passed : (n : ℕ) → r ≡ Ok n → n ≤ room / 4 → job_with (Ok n) ≡ job_answer text room
  unfolding job_with
  check_passed n o l =
      let (es, r, e) = counted n o in
      rw e (sym (answer_read text room es r (omega arith)))

-- ---- as `read_job` goes

module _ (text s : List ℕ) where
  pub read_refused : (r : Result ℕ Fault) (f : Fault) → r ≡ Err f → job_with (Err f) ≡ job_answer text (length s) → read_with (job_with r) s ≡ job_of text s
  unfolding job_with job_answer
  read_refused r f h e =
      ap (λ x. read_with (job_with x) s) h ∙ sym (job_refused text s f.why f.place (ap (λ (j : Job). j.verdict) (sym e)))

  -- it is read once more, into the space
  laid_so : (s' : List ℕ) (es : List Event) (r : Result ℕ ℕ) → tell (sheet s 0) (read es) ≡ whole r text s' → length es * 4 ≤ length s → s' ≡ with_events es s
  unfolding tell whole
  laid_so s' es (Err b) g l = let z : ◌≡◌ {A = ℕ} 0 1 = cc in absurd (omega arith)
  laid_so s' es (Ok n) g l =
      let e : lay_all (sheet s 0) es ≡ sheet s' n = cc in
      ap (λ p. p.bytes) (sym e ∙ lay_fits es s 0 (omega arith)) ∙ stored_front s (records_of es) (omega (arith, records_size es))
      ∙ ap (λ k. records_of es ++ drop k s) (records_size es)

  by_answer : (s' : List ℕ) (o : Result ℕ ℕ) → tell (sheet s 0) (read_job text) ≡ whole o text s' → (r : Answer) → read_job text ≡ r
      → job_verdict text (length s) ≡ Ok tt → s' ≡ with_events (job_events text (length s)) s
  by_answer s' o g (refused rest) e v =
      let z : refused_at WrongJob (length text - length rest) ≡ Ok tt = sym (verdict_stopped text rest (length s) e) ∙ v in never z
  by_answer s' o g (read es) e v = by_test (ltb (length s) (length es * 4))
      (λ y. never (sym (verdict_small text (length s) es e (ltb-true (length s) (length es * 4) y)) ∙ v))
      (λ y. let l : length es * 4 ≤ length s = ltb-false (length s) (length es * 4) y in
      laid_so s' es o (ap (tell (sheet s 0)) (sym e) ∙ g) l ∙ ap (λ x. with_events x s) (sym (events_read text (length s) es e l)))

  pub read_passed : (s' : List ℕ) (o : Result ℕ ℕ) (n : ℕ) → job_with (Ok n) ≡ job_answer text (length s)
      → tell (sheet s 0) (read_job text) ≡ whole o text s' → read_with (job_with (Ok n)) s' ≡ job_of text s
  unfolding job_of job_with job_answer
  read_passed s' o n h g =
      ap (λ a. read_with a s') h
      ∙ ap (read_with (job_answer text (length s))) (by_answer s' o g (read_job text) refl (ap (λ (j : Job). j.verdict) (sym h)))

-- ---- two answers that come to the same are equal

pub job_same : (r q : Result ℕ Fault) → job_with r ≡ job_with q → r ≡ q
unfolding job_with
job_same (Ok n) (Ok m) e = ap (λ (j : Job). Ok j.events) e
job_same (Ok n) (Err g) e = apart g (ap (λ (j : Job). j.verdict) e)
job_same (Err f) (Ok m) e = apart f (sym (ap (λ (j : Job). j.verdict) e))
job_same (Err f) (Err g) e = ap (λ (h : Fault). Err h) (fault_same f g (ap (λ (j : Job). j.verdict) e))
