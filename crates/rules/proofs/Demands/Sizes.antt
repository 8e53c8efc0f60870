-- How large a figure of a replay can be: a refusal's place, a row, a count of calls and a delay. Assumes nothing.
use Rattle.std.specs.Prelude.{Ok, Err}
use Rattle.rules.specs.Numbers.Answer.{verdict_place}
use Rattle.rules.specs.Numbers.Verdict.{Verdict, refused_at}
use mathlib.Core.Path.{◌≡◌, refl, sym, ◌∙◌, ap}
use mathlib.Core.Logic.{◌≢◌}
use mathlib.Core.Bool.{false}
use mathlib.Core.List.{List, [], ◌∷◌, ◌++◌}
use Prim.Native.Nat.{ℕ, zero, suc, ◌+◌, ◌≤◌, ◌<◌}
use native.Mathlib.Omega.{arith}
use lib.Dec.{eqb, ltb}
use lib.ListN.{length}
use borrow.Author.Tests.{ltb-true, ltb-false}
use Rattle.rules.specs.Numbers.Capacity.{max_tasks, max_locks, max_uses, max_events, max_delay, nobody}
use Rattle.rules.specs.Numbers.Place.{at, sum, greatest, first_from}
use Rattle.rules.specs.Numbers.Refusal.{number_of, Check, first_fault, check_for}
use Rattle.rules.specs.Books.Plan.{most, count_fault, Obeys}
use Rattle.rules.specs.Books.Load.{record_checks, load_checks}
use Rattle.rules.specs.Books.Book.{count_at, tasks_of, locks_of, uses_of, events_of, record_event, event_body, contents_checks, event_checks, check_of}
use Rattle.rules.specs.Schedulers.Figures.{Figures, priority_of, rank_of}
use Rattle.rules.specs.Schedulers.Eager.{running_of}
use Rattle.rules.specs.Demands.Bound.{may_block, limit_if, longest_limit, bound_of}
use Rattle.rules.specs.Demands.History.{event_at, eager_at, runner_at, accepted_at, call_rule, calls_due, kernel_at, calls_at, lazy_count, eager_count}
use Rattle.rules.specs.Demands.Replayed.{RowAt}
use Rattle.rules.specs.declared.plan.Plan.{Plan}
use Rattle.rules.specs.declared.protocol.Protocol.{Protocol}
use Rattle.rules.specs.declared.refusal.Refusal.{Refusal}
use Rattle.rules.specs.declared.refusal.Refusal.TheVariants.{WrongCount}
use Rattle.rules.specs.declared.event.Event.{Event}
use Rattle.rules.specs.declared.event.Event.TheVariants.{Release, Acquire, Unlock, Work, Finish, Tick}
use Rattle.rules.proofs.Numbers.Choice.{by_test, either, or_false}
use Rattle.rules.proofs.Numbers.Place.{length_from, greatest_least}
use Rattle.rules.proofs.Numbers.Row.{priority_below}
use Rattle.rules.proofs.Numbers.Checks.{refused_not, check_none, check_finds, check_passes, check_left, check_right, clean_for}
use Rattle.rules.proofs.Books.Obeyed.{few_tasks, base_byte, ceiling_byte}
use Rattle.rules.proofs.Schedulers.Elect.{elected_lead, elected_some}
use Rattle.rules.proofs.Schedulers.FiguresKept.{eager_once}

-- ---- the place of a refusal of 1 to 9 or 24

-- no record of these checks has a place of n or more
Within : ℕ → List Check → Type 0
Within n [] = Unit {0}
Within n (c ∷ cs) = (c.first + c.count ≤ n) × Within n cs

same_place : (a b : Refusal) (i j : ℕ) → refused_at a i ≡ refused_at b j → i ≡ j
unfolding verdict_place
same_place a b i j e = ap verdict_place e

abbrev first_of : Check → ℕ
first_of c = first_from c.fault 0 c.count

place_within : (n : ℕ) (cs : List Check) → Within n cs → (why : Refusal) (place : ℕ) → first_fault cs ≡ refused_at why place → place < n
unfolding Within
place_within n [] w why place e = refused_not why place (sym e ∙ check_none)
place_within n (c ∷ cs) w why place e = by_test (ltb (first_of c) c.count)
    (λ t. let l : first_of c < c.count = ltb-true _ _ t in
    omega (arith, w.0, same_place c.refusal why (c.first + first_of c) place (sym (check_finds c cs (first_of c) refl l) ∙ e)))
    (λ t. place_within n cs w.1 why place (sym (check_passes c cs (first_of c) refl (ltb-false _ _ t)) ∙ e))

-- a book whose contents pass has no more records of a kind than a book may have
module _ (b : List ℕ) (passed : first_fault (contents_checks b) ≡ Ok tt) where
  in_range : (e : ℕ) → e < 4 → count_fault e (count_at b e) ≡ false
  unfolding contents_checks check_for number_of
  in_range = clean_for (contents_checks b) passed WrongCount

  few_records : (count_at b 0 ≤ max_tasks) × (count_at b 1 ≤ max_locks) × (count_at b 2 ≤ max_uses) × (count_at b 3 ≤ max_events)
  unfolding count_fault most
  few_records = (
    ltb-false max_tasks (count_at b 0) (or_false (eqb (count_at b 0) 0) (ltb max_tasks (count_at b 0)) (in_range 0 (omega arith))).1,
    ltb-false max_locks (count_at b 1) (in_range 1 (omega arith)),
    ltb-false max_uses (count_at b 2) (in_range 2 (omega arith)),
    ltb-false max_events (count_at b 3) (in_range 3 (omega arith)),
  )

  pub few_events : length (events_of b) ≤ max_events
  few_events = omega (arith, few_records.3, length_from (record_event (event_body b)) 0 (count_at b 3))

  later_within : (room : ℕ) → Within max_events (load_checks (tasks_of b) (locks_of b) (uses_of b) ++ event_checks b room)
  unfolding Within load_checks record_checks event_checks
  later_within room =
      let t : length (tasks_of b) ≡ count_at b 0 = length_from _ 0 (count_at b 0) in
      let l : length (locks_of b) ≡ count_at b 1 = length_from _ 0 (count_at b 1) in
      let u : length (uses_of b) ≡ count_at b 2 = length_from _ 0 (count_at b 2) in
      let f : (count_at b 0 ≤ max_tasks) × (count_at b 1 ≤ max_locks) × (count_at b 2 ≤ max_uses) × (count_at b 3 ≤ max_events) = few_records in
      (omega arith, (omega arith, (omega arith, (omega arith, (omega arith, (omega arith, (omega arith, (omega arith, tt))))))))

-- every place is below the most events that a book may have
pub place_few : (b : List ℕ) (room : ℕ) (why : Refusal) (place : ℕ) → check_of b room ≡ refused_at why place → place < max_events
unfolding check_of
place_few b room why place e = go (first_fault (contents_checks b)) refl
  where
    later : List Check
    later = load_checks (tasks_of b) (locks_of b) (uses_of b) ++ event_checks b room

    contents_within : Within max_events (contents_checks b)
    contents_within = unfold Within contents_checks in (omega arith, (omega arith, (omega arith, tt)))

    go : (v : Verdict) → first_fault (contents_checks b) ≡ v → place < max_events
    go (Ok _) q = place_within max_events later (later_within b q room) why place (sym (check_right (contents_checks b) later q) ∙ e)
    go (Err f) q =
        place_within max_events (contents_checks b) contents_within why place
        (q ∙ sym (check_left (contents_checks b) later f.why f.place q) ∙ e)

-- ---- the numbers of a row

module _ {p : Plan} (O : Obeys p) (f : Figures) where
  priority_byte : (x : ℕ) → priority_of p f x < 256
  unfolding priority_of
  priority_byte x = priority_below (at p.ceiling) (at p.base x) 256 (at f.takes x) (at f.depth x) (base_byte O x) (λ l _. ceiling_byte O l)

  rank_byte : (x : ℕ) → rank_of p f x < 256
  unfolding rank_of
  rank_byte x = either (λ v. v < 256) (ltb 0 (at f.released x)) (priority_of p f x) 0 (priority_byte x) (omega arith)

  runner_task : running_of p f ≢ nobody → running_of p f < max_tasks
  unfolding running_of
  runner_task h =
      let n : p.tasks ≤ nobody = omega (arith, few_tasks O) in
      let some : 0 < greatest (rank_of p f) p.tasks = elected_some (at f.released) (rank_of p f) p.tasks n h in
      omega (arith, few_tasks O, (elected_lead (at f.released) (rank_of p f) p.tasks n some).within)

-- a task or nobody, two bytes, and a call or none
pub record SmallRow (task user next call : ℕ) : Type 0 where
  pub runs : task ≢ nobody → task < max_tasks
  pub own : user < 256
  pub others : next < 256
  pub once : call ≤ 1

pub row_small : {pr : Protocol} {p : Plan} → Obeys p → (es : List Event) (k task user next call : ℕ)
    → RowAt pr p es k task user next call → SmallRow task user next call
row_small {p = p} O es k task user next call R =
    let f : Figures = eager_at p es (suc k) in
    record {
      runs = rw R.runs (runner_task O f);
      own = omega (arith, R.own, rank_byte O f (runner_at p es (suc k)));
      others = omega (arith, R.at_most, R.own, rank_byte O f (runner_at p es (suc k)));
      once = R.once;
    }

-- ---- the counts of calls

sum_most : (f : ℕ → ℕ) (n : ℕ) → ((j : ℕ) → f j ≤ 1) → sum f n ≤ n
unfolding sum
sum_most f zero h = omega arith
sum_most f (suc k) h = omega (arith, h k, sum_most f k h)

due_once : (pr : Protocol) (p : Plan) (f : Figures) (word : ℕ) (e : Event) → calls_due pr p f word e ≤ 1
unfolding calls_due
due_once pr p f word (Release t) = omega arith
due_once pr p f word (Acquire l) = omega arith
due_once pr p f word (Unlock l) = either (λ v. v ≤ 1) (call_rule pr p f word l) 1 0 (omega arith) (omega arith)
due_once pr p f word (Work a) = omega arith
due_once pr p f word Finish = omega arith
due_once pr p f word Tick = omega arith

module _ (pr : Protocol) (p : Plan) (es : List Event) (k : ℕ) where
  pub lazy_few : lazy_count pr p es k ≤ k
  unfolding lazy_count
  lazy_few = sum_most _ k (λ j. either (λ v. v ≤ 1) (accepted_at p es j) (calls_at pr p es j) 0
      (due_once pr p (eager_at p es j) (kernel_at p es j) (event_at es j)) (omega arith))

module _ (p : Plan) (es : List Event) (k : ℕ) where
  pub eager_few : eager_count p es k ≤ k
  unfolding eager_count
  eager_few = sum_most _ k (λ j. either (λ v. v ≤ 1) (accepted_at p es j) _ 0
      (eager_once p (eager_at p es j) (eager_at p es (suc j)) (runner_at p es j) (event_at es j)) (omega arith))

-- ---- the bound of a delay

pub bound_word : {p : Plan} → Obeys p → (t : ℕ) → bound_of p t ≤ max_delay
unfolding longest_limit limit_if
bound_word {p} O t = greatest_least (limit_if p (at p.base t)) max_delay p.locks
    (λ l _. either (λ v. v ≤ max_delay) (may_block p (at p.base t) l) (at p.limit l) 0 (omega (arith, O.limit_bytes l)) (omega arith))
