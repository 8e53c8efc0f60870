-- Every list of events has its book: one with the plan of an accepted book, and these events. Assumes nothing.
use Rattle.std.specs.Prelude.{Ok}
use mathlib.Core.Path.{◌≡◌, refl, ◌∙◌, ap, ap₂}
use mathlib.Core.Logic.{⊎_elim}
use mathlib.Core.Bool.{false}
use mathlib.Core.List.{List, [], ◌∷◌, map, append_assoc}
use Prim.Native.Nat.{ℕ, zero, suc, ◌+◌, ◌*◌, ◌/◌, ◌^◌, ◌≤◌, ◌<◌}
use native.Mathlib.Nat.{le_of_suc-le-suc, not-suc-le-zero, zero-lt-suc}
use native.Mathlib.Omega.{arith}
use lib.ListN.{length, length-map}
use borrow.Author.Tests.{le-ltb}
use Rattle.rules.specs.Numbers.Capacity.{max_events}
use Rattle.rules.specs.Numbers.Place.{at}
use Rattle.rules.specs.Numbers.Refusal.{first_fault}
use Rattle.rules.specs.Books.Event.{kind_of, id_of, amount_of, event_fault, event_of}
use Rattle.rules.specs.Books.Event.{record_kind, record_id, record_amount, number_fault, number_event, event_number}
use Rattle.rules.specs.Books.Plan.{most, count_fault}
use Rattle.rules.specs.Books.Load.{count_fault_of, load_checks}
use Rattle.rules.specs.Books.Book.{word, long, count_at, body_at, tasks_of, locks_of, uses_of, plan_in, events_of, check_of}
use Rattle.rules.specs.Books.Bytes.{book_of, Bytes}
use Rattle.rules.specs.Books.Write.{counts_of, whole_checks}
use Rattle.rules.specs.Demands.History.{event_at}
use Rattle.rules.specs.declared.event.Event.{Event}
use Rattle.rules.specs.declared.event.Event.TheVariants.{Release, Acquire, Unlock, Work, Finish, Tick}
use Rattle.rules.proofs.Numbers.Choice.{lt_or_le}
use Rattle.rules.proofs.Numbers.Place.{length_from, none_past}
use Rattle.rules.proofs.Numbers.Checks.{check_none, clean_passes, check_right}
use Rattle.rules.proofs.Books.Passes.{counts_clean, passed_contents, passed_loads}
use Rattle.rules.proofs.Books.ReadBack.{plan_back, events_back_lem, check_back}
use Rattle.rules.proofs.Books.OfBytes.{book_bytes, word_fits, words_fit, longs_fit}

-- ---- the record of an event

-- the event has a record: refusal 8 does not meet it, and its numbers fit
pub record Recorded (e : Event) : Type 0 where
  pub right : event_fault (kind_of e) (id_of e) (amount_of e) ≡ false
  pub id : id_of e < 256
  pub amount : amount_of e < 65536

event_back : (e : Event) → event_of (kind_of e) (id_of e) (amount_of e) ≡ e
unfolding event_of kind_of id_of amount_of
event_back (Release t) = refl
event_back (Acquire l) = refl
event_back (Unlock l) = refl
event_back (Work a) = refl
event_back Finish = refl
event_back Tick = refl

kind_byte : (e : Event) → kind_of e < 256
unfolding kind_of
kind_byte (Release t) = omega arith
kind_byte (Acquire l) = omega arith
kind_byte (Unlock l) = omega arith
kind_byte (Work a) = omega arith
kind_byte Finish = omega arith
kind_byte Tick = omega arith

module _ (e : Event) (R : Recorded e) where
  -- the parts of its number are its own
  parts : (record_kind (event_number e) ≡ kind_of e) × (record_id (event_number e) ≡ id_of e) × (record_amount (event_number e) ≡ amount_of e)
  parts =
      let upper : event_number e / 256 ≡ id_of e + amount_of e * 256 = omega (arith, kind_byte e) in
      (omega (arith, kind_byte e), omega (arith, R.id, upper), omega (arith, kind_byte e, R.id))

  number_event_lem : number_event (event_number e) ≡ e
  unfolding number_event
  number_event_lem = let (k, i, a) = parts in rw (k, i, a) (event_back e)

  number_clean : number_fault (event_number e) ≡ false
  unfolding number_fault
  number_clean = let (k, i, a) = parts in rw (k, i, a) R.right

  number_fits : event_number e < 2 ^ 32
  number_fits = omega (arith, kind_byte e, R.id, R.amount)

-- the numbers of a list of events
number_at : (es : List Event) (k : ℕ) → k < length es → at (map event_number es) k ≡ event_number (event_at es k)
number_at [] k h = absurd (not-suc-le-zero h)
number_at (e ∷ es) zero h = refl
number_at (e ∷ es) (suc k) h = number_at es k (le_of_suc-le-suc h)

numbers_events : (es : List Event) → ((k : ℕ) → k < length es → Recorded (event_at es k)) → map number_event (map event_number es) ≡ es
numbers_events [] R = refl
numbers_events (e ∷ es) R = ap₂ ◌∷◌ (number_event_lem e (R 0 (zero-lt-suc (length es)))) (numbers_events es (λ k h. R (suc k) (omega (arith, h))))

-- ---- the book

abbrev pub with_events : List ℕ → List Event → List ℕ
with_events b es = book_of (tasks_of b) (locks_of b) (uses_of b) (map event_number es)

pub plan_same : (b : List ℕ) (es : List Event) → plan_in (with_events b es) ≡ plan_in b
plan_same b es = plan_back (tasks_of b) (locks_of b) (uses_of b) (map event_number es)

module _ (b : List ℕ) (es : List Event) (R : (k : ℕ) → k < length es → Recorded (event_at es k)) where
  pub events_same : events_of (with_events b es) ≡ es
  events_same = events_back_lem (tasks_of b) (locks_of b) (uses_of b) (map event_number es) ∙ numbers_events es R

  module _ (room : ℕ) (passed : check_of b room ≡ Ok tt) (few : length es ≤ max_events) where
    counts : (e : ℕ) → e < 4 → count_fault e (counts_of (tasks_of b) (locks_of b) (uses_of b) (map event_number es) e) ≡ false
    unfolding count_fault_of count_fault most
    counts zero h = counts_clean b (passed_contents b room passed) 0 (omega arith)
    counts (suc zero) h = counts_clean b (passed_contents b room passed) 1 (omega arith)
    counts (suc (suc zero)) h = counts_clean b (passed_contents b room passed) 2 (omega arith)
    counts (suc (suc (suc zero))) h = le-ltb max_events (length (map event_number es)) (omega (arith, few, length-map es event_number))
    counts (suc (suc (suc (suc e)))) h = absurd (omega arith)

    -- it is accepted, with row space for these events
    pub accepted_with_lem : (space : ℕ) → length es * 4 ≤ space → check_of (with_events b es) space ≡ Ok tt
    unfolding whole_checks
    accepted_with_lem space fits =
        check_back (tasks_of b) (locks_of b) (uses_of b) (map event_number es) space
        ∙ clean_passes _ _ counts
        ∙ ap first_fault (append_assoc (load_checks (tasks_of b) (locks_of b) (uses_of b)) _ _)
        ∙ check_right (load_checks (tasks_of b) (locks_of b) (uses_of b)) _ (passed_loads b room passed)
        ∙ clean_passes _ _ (λ k h. let q : k < length es = omega (arith, h, length-map es event_number) in
        ap number_fault (number_at es k q) ∙ number_clean (event_at es k) (R k q))
        ∙ clean_passes _ _ (λ i h. le-ltb space (length (map event_number es) * 4) (omega (arith, fits, length-map es event_number)))
        ∙ check_none

    -- and of bytes where b is
    pub bytes_with : Bytes b → Bytes (with_events b es)
    bytes_with old = book_bytes (tasks_of b) (locks_of b) (uses_of b) (map event_number es) (record {
      task_numbers = words_fit b old (body_at b 0) (count_at b 0) 0;
      lock_numbers = longs_fit b old (body_at b 1) (count_at b 1) 0;
      use_numbers = words_fit b old (body_at b 2) (count_at b 2) 0;
      event_numbers = λ i. ⊎_elim
          (λ (h : i < length es). rw (number_at es i h) (number_fits (event_at es i) (R i h)))
          (λ (h : length es ≤ i). omega (arith, none_past (map event_number es) (length es) i (length-map es event_number) h))
          (lt_or_le i (length es));
      task_count = omega (arith, length_from (λ i. word b (body_at b 0 + i * 2)) 0 (count_at b 0), word_fits b old 2);
      lock_count = omega (arith, length_from (λ i. long b (body_at b 1 + i * 4)) 0 (count_at b 1), word_fits b old 10);
      use_count = omega (arith, length_from (λ i. word b (body_at b 2 + i * 2)) 0 (count_at b 2), word_fits b old 18);
      event_count = omega (arith, few, length-map es event_number);
    })
