-- What is promised of the writer, said of the code. Assumes nothing.
use mathlib.Core.Path.{◌≡◌, refl, sym, ◌∙◌, ap, subst}
use mathlib.Core.List.{List, [], ◌∷◌, map}
use Prim.Native.Nat.{ℕ, zero, suc, ◌*◌, ◌≤◌, ◌<◌}
use native.Mathlib.Nat.{le_of_suc-le-suc, not-suc-le-zero}
use contract.Lifetimes.{Lfts}
use Rattle.std.specs.Prelude.{Result}
use lib.ListN.{length, take, drop, length-map}
use Rattle.rules.specs.Numbers.Place.{at}
use Rattle.rules.specs.Numbers.Answer.{verdict_number, verdict_place}
use Rattle.rules.specs.Books.Event.{number_event}
use Rattle.rules.specs.Books.Load.{load_of}
use Rattle.rules.specs.Books.Book.{found_at, events_of, check_of, checked_of}
use Rattle.rules.specs.Books.Bytes.{book_of, Bytes}
use Rattle.rules.specs.Books.Write.{Wrote, write_of, wrote_with}
use Rattle.rules.specs.Demands.History.{event_at}
use Rattle.rules.specs.Demands.Written.{ReadsAs, RefusesAs, WrittenAs, WrittenBack}
use Rattle.rules.specs.Books.Book.{Checked, checked_with}
use Rattle.rules.specs.declared.answer.Found.{Found}
use Rattle.rules.specs.Books.Load.{Loaded}
use Rattle.rules.specs.declared.answer.Fault.{Fault}
use Rattle.rules.specs.declared.answer.Opened.{Opened}
use Rattle.rules.proofs.Books.Passes.{verdict_held}
use Rattle.rules.proofs.Demands.Written.{writing}
use Rattle.book.specs.Reader.{ReadAt}
use Rattle.book.proofs.check.Reads as check
use Rattle.book.proofs.writer.write.Reads as write
use Rattle.promises.specs.Writing.{ReadsBack, WritesAgain, RefusesAlike}
use Rattle.promises.proofs.Passed.{number_is}
use Rattle.promises.proofs.Reading.{found_at_lem}

-- all that is promised of the definition holds of what `write` answers and leaves
pub write_keeps : (κs : Lfts 5) (a : _) (b : _) (r : Result ℕ Fault) → write.Post κs a r b
    → WrittenAs a.0.now a.1.0.now a.1.1.0.now a.1.1.1.0.now a.1.1.1.1.0.now (wrote_with r b.1.1.1.1.0.now)
write_keeps κs a b r h =
    subst (λ (w : Wrote). WrittenAs a.0.now a.1.0.now a.1.1.0.now a.1.1.1.0.now a.1.1.1.1.0.now w) (sym h)
    (writing.written a.0.now a.1.0.now a.1.1.0.now a.1.1.1.0.now a.1.1.1.1.0.now)

-- ---- reading what was written

-- event k of a list of records' events
event_of_lem : (ws : List ℕ) (k : ℕ) → k < length ws → event_at (map number_event ws) k ≡ number_event (at ws k)
event_of_lem [] k h = absurd (not-suc-le-zero h)
event_of_lem (w ∷ ws) zero h = refl
event_of_lem (w ∷ ws) (suc k) h = event_of_lem ws k (le_of_suc-le-suc h)

module _ (tasks locks uses events b : List ℕ) (R : ReadsAs tasks locks uses events b) (room : ℕ) (fits : length events * 4 ≤ room) (c : Checked)
    (h : c ≡ checked_of b room) where
  passes : verdict_number c.verdict ≡ 0
  passes = ap (λ (x : Checked). verdict_number x.verdict) h ∙ R.accepted room fits

  read_there : (start k : ℕ) (lent : List ℕ) (r : Found) → r ≡ found_at (drop start lent) k → lent ≡ b → start ≡ c.events → ReadAt b k r
  read_there start k lent r q same there = found_at_lem b room c h passes (drop start lent) k r (λ i. drop (there i) (same i)) q

  reads_back : ReadsBack tasks locks uses events b c
  reads_back = record {
    accepted = passes;
    plan = λ κs given left l q t m u.
        ap (λ (x : Checked). x.plan) h ∙ R.plan room fits ∙ sym (ap (λ (x : Loaded). x.plan) (q ∙ (λ i. load_of (t i) (m i) (u i))));
    found = λ κs lent left r q same there l.
        let F = read_there lent.1.0 lent.1.1.0 lent.0.now r q same there in
        let n : lent.1.1.0 < length (events_of b) = rw (R.list, length-map events number_event) l in
        (F.some n, F.event n ∙ ap (λ es. event_at es lent.1.1.0) R.list ∙ event_of_lem events lent.1.1.0 l);
    end = λ κs lent left r q same there l.
        (read_there lent.1.0 lent.1.1.0 lent.0.now r q same there).end (rw (R.list, length-map events number_event) l);
  }

pub write_reads_back : (κs : Lfts 5) (a : _) (b : _) (r : Result ℕ Fault) → write.Post κs a r b → verdict_number (wrote_with r b.1.1.1.1.0.now).verdict ≡ 0
    → (κs' : Lfts 1) (lent : _) (left : _) (c : Result Opened Fault) → check.Post κs' lent c left
    → lent.0.now ≡ take (wrote_with r b.1.1.1.1.0.now).length (wrote_with r b.1.1.1.1.0.now).bytes → length a.1.1.1.0.now * 4 ≤ lent.1.0
    → ReadsBack a.0.now a.1.0.now a.1.1.0.now a.1.1.1.0.now (take (wrote_with r b.1.1.1.1.0.now).length (wrote_with r b.1.1.1.1.0.now).bytes) (checked_with c)
write_reads_back κs a b r h e κs' lent left c q same fits =
    reads_back a.0.now a.1.0.now a.1.1.0.now a.1.1.1.0.now (take (wrote_with r b.1.1.1.1.0.now).length (wrote_with r b.1.1.1.1.0.now).bytes)
    ((write_keeps κs a b r h).reads e) lent.1.0 fits (checked_with c) (q ∙ ap (λ x. checked_of x lent.1.0) same)

-- ---- writing what was read

pub writes_again : (κs : Lfts 1) (a : _) (b : _) (c : Result Opened Fault) → check.Post κs a c b → verdict_number (checked_with c).verdict ≡ 0 → Bytes a.0.now
    → WritesAgain a.0.now
writes_again κs a b c h e of-bytes κs' given left r q t m u k room =
    subst (WrittenBack a.0.now) (sym (q ∙ (λ i. write_of (t i) (m i) (u i) (k i) given.1.1.1.1.0.now)))
    (writing.again a.0.now a.1.0 given.1.1.1.1.0.now of-bytes (number_is a.0.now a.1.0 (checked_with c) h e) room)

-- ---- the same refusals

alike : (tasks locks uses events buffer : List ℕ) (w : Wrote) → RefusesAs tasks locks uses events buffer w → (room : ℕ) (c : Checked)
    → c ≡ checked_of (book_of tasks locks uses events) room → length events * 4 ≤ room → 0 < verdict_number c.verdict
    → (verdict_number w.verdict ≡ verdict_number c.verdict) × (verdict_place w.verdict ≡ verdict_place c.verdict)
alike tasks locks uses events buffer w F room c h fits refused =
    let b : List ℕ = book_of tasks locks uses events in
    let v : c.verdict ≡ check_of b room = ap (λ (x : Checked). x.verdict) h ∙ verdict_held (check_of b room) b in
    let n : 0 < verdict_number (check_of b room) = rw v at refused in
    (F.number room fits n ∙ ap verdict_number (sym v), F.place room fits n ∙ ap verdict_place (sym v))

pub refuses_alike : (κs : Lfts 5) (a : _) (b : _) (r : Result ℕ Fault) → write.Post κs a r b
    → RefusesAlike a.0.now a.1.0.now a.1.1.0.now a.1.1.1.0.now (wrote_with r b.1.1.1.1.0.now)
refuses_alike κs a b r h κs' lent left c q same fits refused =
    alike a.0.now a.1.0.now a.1.1.0.now a.1.1.1.0.now a.1.1.1.1.0.now (wrote_with r b.1.1.1.1.0.now)
    (write_keeps κs a b r h).refuses lent.1.0 (checked_with c) (q ∙ ap (λ x. checked_of x lent.1.0) same) fits refused
