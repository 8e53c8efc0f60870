-- The text for every book fits the program's buffer. Assumes nothing.
use Rattle.std.specs.Prelude.{Ok, Err}
use Rattle.rules.specs.Numbers.Verdict.{Verdict}
use mathlib.Core.Path.{◌≡◌, refl, sym, ◌∙◌, ap}
use mathlib.Core.Logic.{⊎_elim}
use mathlib.Core.List.{List, [], ◌∷◌}
use Prim.Native.Nat.{ℕ, zero, suc, ◌^◌, ◌≤◌, ◌<◌, min}
use native.Mathlib.Omega.{arith}
use lib.ListN.{length, take, replicate, length-take}
use lib.Seq.{take-append_seam}
use Rattle.io.specs.Counts.{IsPrefixLen}
use Rattle.rules.specs.Numbers.Capacity.{max_events}
use Rattle.rules.specs.Numbers.Answer.{verdict_number, verdict_place}
use Rattle.rules.specs.Numbers.Place.{at, stored}
use Rattle.rules.specs.Books.Plan.{Obeys}
use Rattle.rules.specs.Books.Book.{events_of, check_of, checked_as, checked_of}
use Rattle.rules.specs.Schedulers.State.{fresh_of}
use Rattle.rules.specs.Replays.Replay.{ran_as}
use Rattle.rules.specs.Replays.Run.{Ran}
use Rattle.rules.specs.Demands.Replayed.{RanUpTo}
use Rattle.rules.specs.declared.plan.Plan.{Plan}
use Rattle.rules.specs.declared.protocol.Protocol.{Protocol}
use Rattle.rules.specs.declared.event.Event.{Event}
use Rattle.rules.specs.declared.answer.Replayed.{Replayed}
use Rattle.rules.proofs.Numbers.Choice.{lt_or_le}
use Rattle.rules.proofs.Numbers.Stored.{stored_front}
use Rattle.rules.proofs.Books.Obeyed.{few_tasks}
use Rattle.rules.proofs.Numbers.Checks.{none_refused_at}
use Rattle.rules.proofs.Books.Passes.{passed_contents, passed_obeys}
use Rattle.rules.proofs.Demands.Replayed.{replayed}
use Rattle.rules.proofs.Demands.Sizes.{place_few, few_events, row_small, lazy_few, eager_few, bound_word}
use Rattle.report.specs.Report.{report_of}
use Rattle.office.specs.Ran.{row_space, ran_of}
use Rattle.orbeshuri.specs.Text.{report_space, reported, text_of}
use Rattle.orbeshuri.proofs.Written.{rows_room, text_is, refused_text}
use Rattle.orbeshuri.proofs.Length.{SmallAt, passed_long, stopped_long}

-- the first n of a list whose figures are below v
front_below : (v : ℕ) → 0 < v → (n : ℕ) (xs : List ℕ) → ((i : ℕ) → at xs i < v) → (i : ℕ) → at (take n xs) i < v
front_below v o zero xs h i = o
front_below v o (suc n) [] h i = o
front_below v o (suc n) (x ∷ xs) h zero = h 0
front_below v o (suc n) (x ∷ xs) h (suc i) = front_below v o n xs (λ i. h (suc i)) i

-- the report of a run
module _ (pr : Protocol) {p : Plan} (O : Obeys p) (es : List Event) (few : length es ≤ max_events) (rows : List ℕ) (ran : Ran) (a : ℕ)
    (R : RanUpTo pr p es rows ran a) where
  ran_fits : length (report_of ran.verdict a ran.rows ran.state.head.lazy ran.state.head.eager (take p.tasks ran.state.delay))
      ≤ report_space
  unfolding verdict_place
  ran_fits = by ran.verdict place_small
    where
      lazy : ℕ
      lazy = ran.state.head.lazy

      eager : ℕ
      eager = ran.state.head.eager

      delays : List ℕ
      delays = take p.tasks ran.state.delay

      small : (k : ℕ) → k < a → SmallAt ran.rows k
      small k l = row_small O es k _ _ _ _ (R.written k l)

      place_small : verdict_place ran.verdict < 10 ^ 5
      place_small = ⊎_elim
          (λ (l : a < length es). omega (arith, R.place l))
          (λ (l : length es ≤ a). rw (none_refused_at ran.verdict (R.passed.1 (omega (arith, R.within)))) (omega arith))
          (lt_or_le a (length es))

      by : (v : Verdict) → verdict_place v < 10 ^ 5 → length (report_of v a ran.rows lazy eager delays) ≤ report_space
      by (Ok _) h = omega (
        arith,
        few_tasks O,
        length-take p.tasks ran.state.delay,
        passed_long ran.rows a (omega (arith, R.within)) small lazy eager delays
            (omega (arith, R.within, R.lazy, lazy_few pr p es a)) (omega (arith, R.within, R.eager, eager_few p es a))
            (front_below (10 ^ 5) (omega arith) p.tasks ran.state.delay (λ t. omega (arith, R.bounded t, bound_word O t))),
        R.within,
      )
      by (Err f) h =
          omega (arith, R.within, stopped_long ran.rows a (omega (arith, R.within)) small lazy eager delays f.why f.place h)

-- the text of a book whose events run
ran_text : (pr : Protocol) (b : List ℕ) → check_of b row_space ≡ Ok tt → length (text_of pr b) ≤ report_space
unfolding checked_as verdict_number
ran_text pr b e = rw e (ran_fits pr (passed_obeys b row_space e) (events_of b) (few_events b (passed_contents b row_space e)) (replicate row_space 0) (ran_of pr b)
    (ran_of pr b).state.head.accepted ((replayed pr b (replicate row_space 0)).ran (rw rows_room (ap verdict_number e))))

-- no text is longer than the buffer, whatever the book
pub text_fits : (pr : Protocol) (b : List ℕ) → length (text_of pr b) ≤ report_space
text_fits pr b = go (check_of b row_space) refl
  where
    go : (v : Verdict) → check_of b row_space ≡ v → length (text_of pr b) ≤ report_space
    go (Ok _) e = ran_text pr b e
    go (Err f) e = rw (refused_text pr b f.why f.place e)
        (omega (
          arith,
          stopped_long (replicate row_space 0) 0 (omega arith) (λ k l. absurd (omega arith)) 0 0 (take 0 fresh_of.delay) f.why f.place
              (omega (arith, place_few b row_space f.why f.place e)),
        ))

-- ---- so the whole of it stands at the front of the buffer

front_whole : (out t : List ℕ) → length t ≤ length out → take (length t) (stored out 0 t) ≡ t
front_whole out t h = ap (take (length t)) (stored_front out t h) ∙ take-append_seam t _

-- the report of a replay, in a buffer with room for every text
module _ (pr : Protocol) (b rows : List ℕ) (r : Replayed) (ran : ran_as r rows ≡ ran_of pr b)
    (planned : r.plan ≡ (checked_of b (length (replicate {A = ℕ} row_space 0))).plan)
    (out : List ℕ) (room : report_space ≤ length out) (n : ℕ) (counted : n ≡ min (length (reported r rows)) (length out)) where
  pub whole_length : n ≡ length (text_of pr b)
  whole_length = omega (arith, text_fits pr b, counted ∙ ap (λ (t : List ℕ). min (length t) (length out)) (text_is pr b rows r ran planned))

  pub whole_front : (after : List ℕ) → after ≡ stored out 0 (reported r rows) → take n after ≡ text_of pr b
  whole_front after e =
      rw (e ∙ ap (stored out 0) (text_is pr b rows r ran planned), whole_length) (front_whole out (text_of pr b) (omega (arith, text_fits pr b)))

  -- and what stands after it stays
  pub whole_bytes : (after : List ℕ) → after ≡ stored out 0 (reported r rows) → after ≡ stored out 0 (text_of pr b)
  whole_bytes after e = e ∙ ap (stored out 0) (text_is pr b rows r ran planned)

  -- as a part of the buffer that is lent
  pub whole_counts : (after : List ℕ) → after ≡ stored out 0 (reported r rows) → IsPrefixLen n after
  whole_counts after e =
      let fill : n ≡ length (take n after) = whole_length ∙ ap length (sym (whole_front after e)) in (omega (arith, length-take n after), fill)
