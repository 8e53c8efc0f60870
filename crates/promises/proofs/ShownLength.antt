-- How long the text of an accepted book can be. Assumes nothing.
use Rattle.std.specs.Prelude.{Ok, Err, if◌then◌else◌}
use Rattle.rules.specs.Numbers.Verdict.{Verdict}
use mathlib.Core.Path.{◌≡◌, refl}
use mathlib.Core.Logic.{◌≢◌}
use mathlib.Core.Bool.{false}
use mathlib.Core.List.{List, [], ◌∷◌, ◌++◌}
use Prim.Native.Nat.{ℕ, zero, suc, ◌+◌, ◌*◌, ◌≤◌, ◌<◌}
use native.Mathlib.Omega.{arith}
use lib.Dec.{eqb, ltb}
use lib.ListN.{length, drop, length-append}
use lib.Seq.{get_or-drop}
use borrow.Author.Tests.{eqb-true, ltb-true}
use Rattle.rules.specs.Numbers.Capacity.{nobody, max_tasks, max_locks, max_uses, max_events, max_accepted, max_takes}
use Rattle.rules.specs.Numbers.Place.{at}
use Rattle.rules.specs.Numbers.Refusal.{number_of}
use Rattle.rules.specs.Books.Event.{id_of, amount_of, number_fault, number_event}
use Rattle.rules.specs.Books.Load.{task_base, task_maximum, lock_ceiling, lock_second, lock_limit, use_task, use_lock}
use Rattle.rules.specs.declared.event.Event.{Event}
use Rattle.rules.specs.declared.refusal.Refusal.{Refusal}
use Rattle.rules.proofs.Numbers.Choice.{if_true, if_false, by_test}
use Rattle.rules.proofs.Numbers.Refusals.{numbered}
use Rattle.page.specs.Ascii.{ascii}
use Rattle.page.specs.Decimal.{digits}
use Rattle.page.specs.Says.{mark, filled}
use Rattle.page.proofs.Numbers.{digits_few}
use Rattle.wording.specs.Meaning.{meaning_of}
use Rattle.wording.specs.Records.{task_line, lock_line, use_line, event_words, event_line, ran_comment, refused_comment, unreached}
use Rattle.office.specs.Show.{each, stop_comment, comment_of}

-- ---- a sentence

-- its bytes, with w for each number
unfoldable pub space_for : ℕ → List ℕ → ℕ
space_for w [] = 0
space_for w (c ∷ cs) = if eqb c mark then w + space_for w cs else suc (space_for w cs)

-- numbers of so many digits
abbrev pub Few : ℕ → List ℕ → Type 0
Few w ns = (i : ℕ) → length (digits (at ns i)) ≤ w

pub filled_long : (w : ℕ) (text ns : List ℕ) → Few w ns → length (filled text ns) ≤ space_for w text
unfolding filled space_for
filled_long w [] ns F = omega arith
filled_long w (c ∷ cs) ns F = by_test (eqb c mark)
    (λ e. rw (if_true (eqb c mark) (digits (at ns 0) ++ filled cs (drop 1 ns)) _ e, if_true (eqb c mark) (w + space_for w cs) _ e)
    (omega (
      arith,
      length-append (digits (at ns 0)) (filled cs (drop 1 ns)),
      F 0,
      filled_long w cs (drop 1 ns) (λ i. rw (get_or-drop 1 ns i 0) (F (1 + i))),
    )))
    (λ e. rw (if_false (eqb c mark) (digits (at ns 0) ++ filled cs (drop 1 ns)) _ e, if_false (eqb c mark) (w + space_for w cs) _ e)
    (omega (arith, filled_long w cs ns F)))

few_none : (w : ℕ) → 0 < w → Few w []
few_none w l i = omega (arith, digits_few 0 0 (omega arith))

few_one : (w n : ℕ) (ns : List ℕ) → length (digits n) ≤ w → Few w ns → Few w (n ∷ ns)
few_one w n ns h F zero = h
few_one w n ns h F (suc i) = F i

-- of numbers below 100,000
abbrev five : (n : ℕ) → n < 100000 → length (digits n) ≤ 5
five n l = digits_few 4 n l

pub one_few : (a : ℕ) → a < 100000 → Few 5 (a ∷ [])
one_few a h = few_one 5 a [] (five a h) (few_none 5 (omega arith))

two_few : (a b : ℕ) → a < 100000 → b < 100000 → Few 5 (a ∷ b ∷ [])
two_few a b h g = few_one 5 a (b ∷ []) (five a h) (one_few b g)

three_few : (a b c : ℕ) → a < 100000 → b < 100000 → c < 100000 → Few 5 (a ∷ b ∷ c ∷ [])
three_few a b c h g f = few_one 5 a (b ∷ c ∷ []) (five a h) (two_few b c g f)

-- ---- the lines of the plan

pub task_long : (k w : ℕ) → k < 100000 → w < 65536 → length (task_line k w) ≤ 25
unfolding task_line ascii space_for
task_long k w l h = filled_long 5 (ascii "task @ @ # @\n") (task_base w ∷ task_maximum w ∷ k ∷ []) (three_few (task_base w) (task_maximum w) k (omega arith) (omega arith) l)

pub use_long : (k w : ℕ) → k < 100000 → w < 65536 → length (use_line k w) ≤ 24
unfolding use_line ascii space_for
use_long k w l h = filled_long 5 (ascii "use @ @ # @\n") (use_task w ∷ use_lock w ∷ k ∷ []) (three_few (use_task w) (use_lock w) k (omega arith) (omega arith) l)

lock_words_long : (k w : ℕ) → k < 100000 → length (filled (ascii "lock @ @ # @\n") (lock_ceiling w ∷ lock_limit w ∷ k ∷ [])) ≤ 25
unfolding ascii space_for
lock_words_long k w l = filled_long 5 (ascii "lock @ @ # @\n") (lock_ceiling w ∷ lock_limit w ∷ k ∷ []) (three_few (lock_ceiling w) (lock_limit w) k (omega arith) (omega arith) l)

pub lock_long : (k w : ℕ) → k < 100000 → lock_second w ≡ 0 → length (lock_line k w) ≤ 25
unfolding lock_line
lock_long k w l z = rw (if_true (eqb (lock_second w) 0) _ _ (rw z refl)) (lock_words_long k w l)

-- ---- an event

words_long : (e : Event) → id_of e < 100000 → amount_of e < 100000 → length (event_words e) ≤ 13
unfolding event_words ascii space_for id_of amount_of
words_long (Event.Release t) h g = filled_long 5 (ascii "release @") (t ∷ []) (one_few t h)
words_long (Event.Acquire l) h g = filled_long 5 (ascii "acquire @") (l ∷ []) (one_few l h)
words_long (Event.Unlock l) h g = omega (arith, filled_long 5 (ascii "unlock @") (l ∷ []) (one_few l h))
words_long (Event.Work a) h g = omega (arith, filled_long 5 (ascii "work @") (a ∷ []) (one_few a g))
words_long Event.Finish h g = omega arith
words_long Event.Tick h g = omega arith

pub event_long : (w : ℕ) (c : List ℕ) (m : ℕ) → number_fault w ≡ false → id_of (number_event w) < 100000 → amount_of (number_event w) < 100000 → length c ≤ m
    → length (event_line w c) ≤ 13 + m
unfolding event_line
event_long w c m h i a l = rw (if_false (number_fault w) _ _ h) (omega (arith, length-append (event_words (number_event w)) c, words_long (number_event w) i a))

-- its comment

unreached_long : (n : ℕ) → n < 100000 → length (unreached n) ≤ 28
unfolding unreached ascii space_for
unreached_long n h = filled_long 5 (ascii " # event @: not reached\n") (n ∷ []) (one_few n h)

idle_long : (n task user : ℕ) → n < 100000 → task < 100000 → user < 100000 → length (filled (ascii " # event @: nobody runs\n") (n ∷ task ∷ user ∷ [])) ≤ 28
unfolding ascii space_for
idle_long n task user h g f = filled_long 5 (ascii " # event @: nobody runs\n") (n ∷ task ∷ user ∷ []) (three_few n task user h g f)

busy_long : (n task user : ℕ) → n < 100000 → task < 100000 → user < 100000 → length (filled (ascii " # event @: task @ runs at @\n") (n ∷ task ∷ user ∷ [])) ≤ 41
unfolding ascii space_for
busy_long n task user h g f = filled_long 5 (ascii " # event @: task @ runs at @\n") (n ∷ task ∷ user ∷ []) (three_few n task user h g f)

ran_long : (n task user : ℕ) → n < 100000 → task < 100000 → user < 100000 → length (ran_comment n task user) ≤ 41
unfolding ran_comment
ran_long n task user h g f = by_test (eqb task nobody)
    (λ e. rw (if_true (eqb task nobody) _ _ e) (omega (arith, idle_long n task user h g f)))
    (λ e. rw (if_false (eqb task nobody) _ _ e) (busy_long n task user h g f))

meaning_long : (why : Refusal) → length (meaning_of why) ≤ 100
unfolding meaning_of ascii space_for
meaning_long Refusal.ShortBook = omega arith
meaning_long Refusal.WrongCount =
    omega (
      arith,
      filled_long 5 (ascii "a book has 1 to @ tasks, and at most @ locks, @ uses and @ events") (max_tasks ∷ max_locks ∷ max_uses ∷ max_events ∷ [])
          (few_one 5 max_tasks (max_locks ∷ max_uses ∷ max_events ∷ []) (five max_tasks (omega arith)) (three_few max_locks max_uses max_events (omega arith) (omega arith) (omega arith))),
    )
meaning_long Refusal.WrongLayout = omega arith
meaning_long Refusal.WrongTask = omega arith
meaning_long Refusal.WrongLock = omega arith
meaning_long Refusal.WrongUse = omega arith
meaning_long Refusal.WrongCeiling = omega arith
meaning_long Refusal.WrongEvent = omega arith
meaning_long Refusal.ShortRows = omega arith
meaning_long Refusal.Unsound = omega arith
meaning_long Refusal.Exhausted =
    omega (arith, filled_long 7 (ascii "@ events were accepted already") (max_accepted ∷ []) (few_one 7 max_accepted [] (digits_few 6 max_accepted (omega arith)) (few_none 7 (omega arith))))
meaning_long Refusal.NobodyRuns = omega arith
meaning_long Refusal.Unknown = omega arith
meaning_long Refusal.AlreadyReleased = omega arith
meaning_long Refusal.NotDeclared = omega arith
meaning_long Refusal.OpenElsewhere = omega arith
meaning_long Refusal.RowFull =
    omega (arith, filled_long 5 (ascii "the running task has @ takes that it has not given back") (max_takes ∷ []) (one_few max_takes (omega arith)))
meaning_long Refusal.NotNewest = omega arith
meaning_long Refusal.NoWork = omega arith
meaning_long Refusal.PastLimit = omega arith
meaning_long Refusal.StillOpen = omega arith
meaning_long Refusal.ShortBuffer = omega arith
meaning_long Refusal.AboveMaximum = omega arith
meaning_long Refusal.WrongJob = omega arith
meaning_long Refusal.ShortSpace = omega arith

refused_head_long : (n r : ℕ) → n < 100000 → r < 100000 → length (filled (ascii " # event @: refused @: ") (n ∷ r ∷ [])) ≤ 31
unfolding ascii space_for
refused_head_long n r h g = filled_long 5 (ascii " # event @: refused @: ") (n ∷ r ∷ []) (two_few n r h g)

refused_long : (n : ℕ) (why : Refusal) → n < 100000 → length (refused_comment n why) ≤ 132
unfolding refused_comment ascii
refused_long n why h = omega (
  arith,
  length-append (filled (ascii " # event @: refused @: ") (n ∷ number_of why ∷ []) ++ meaning_of why) (10 ∷ []),
  length-append (filled (ascii " # event @: refused @: ") (n ∷ number_of why ∷ [])) (meaning_of why),
  refused_head_long n (number_of why) h (omega (arith, (numbered why).1)),
  meaning_long why,
)

stop_long : (v : Verdict) (n : ℕ) → n < 100000 → length (stop_comment v n) ≤ 132
unfolding stop_comment
stop_long (Ok _) n h = omega (arith, unreached_long n h)
stop_long (Err f) n h = refused_long n f.why h

-- the comment of event k, which is the one that was refused, or another one
module _ (v : Verdict) (a : ℕ) (rows : List ℕ) (k : ℕ) (few : k + 1 < 100000) (small : k < a → (at rows (k * 4) < 100000) × (at rows (k * 4 + 1) < 100000)) where
  pub comment_long : k ≢ a → length (comment_of v a rows k) ≤ 41
  unfolding comment_of
  comment_long d = by_test (ltb k a)
      (λ e. rw (if_true (ltb k a) _ _ e) (ran_long (k + 1) (at rows (k * 4)) (at rows (k * 4 + 1)) few (small (ltb-true k a e)).0 (small (ltb-true k a e)).1))
      (λ e. rw (if_false (ltb k a) _ _ e) (by_test (eqb k a)
      (λ f. absurd (d (eqb-true k a f)))
      (λ f. rw (if_false (eqb k a) _ _ f) (omega (arith, unreached_long (k + 1) few)))))

  pub any_comment_long : length (comment_of v a rows k) ≤ 132
  unfolding comment_of
  any_comment_long = by_test (ltb k a)
      (λ e. rw (if_true (ltb k a) _ _ e) (omega (arith, ran_long (k + 1) (at rows (k * 4)) (at rows (k * 4 + 1)) few (small (ltb-true k a e)).0 (small (ltb-true k a e)).1)))
      (λ e. rw (if_false (ltb k a) _ _ e) (by_test (eqb k a)
      (λ f. rw (if_true (eqb k a) _ _ f) (stop_long v (k + 1) few))
      (λ f. rw (if_false (eqb k a) _ _ f) (omega (arith, unreached_long (k + 1) few)))))

-- ---- one after the other

-- where a bound grows by at least each text's length
pub each_long : (f : ℕ → List ℕ) (bound : ℕ → ℕ) (n : ℕ) → ((k : ℕ) → k < n → bound k + length (f k) ≤ bound (suc k)) → length (each f n) ≤ bound n
unfolding each
each_long f bound zero h = omega arith
each_long f bound (suc k) h = omega (arith, each_long f bound k (λ j l. h j (omega arith)), h k (omega arith), length-append (each f k) (f k))
