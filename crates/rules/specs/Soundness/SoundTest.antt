-- RULES 8: the conditions of Sound.antt as one test. That it holds exactly where they all do is proved in proofs/Soundness/SoundTest.antt.
-- Assumes nothing.
use Rattle.std.specs.Prelude.{Bool, true, not, List, [], ◌∷◌, ℕ, zero, suc, ◌+◌, ◌^◌, eqb, leb, ltb, drop, if◌then◌else◌}
use Rattle.rules.specs.Numbers.Capacity.{max_takes, max_accepted, max_delay, nobody}
use Rattle.rules.specs.Numbers.Choice.{all_true}
use Rattle.rules.specs.Numbers.Place.{at, every, greatest, zeros}
use Rattle.rules.specs.Numbers.Row.{newest, under}
use Rattle.rules.specs.Numbers.Mask.{has_bit}
use Rattle.rules.specs.Books.Plan.{count_fault, task_fault, lock_fault, ceiling_fault, above_fault}
use Rattle.rules.specs.Schedulers.Figures.{Figures, figures_of, rank_of}
use Rattle.rules.specs.Schedulers.Lazy.{Words, words_of}
use Rattle.rules.specs.Soundness.Sound.{kept_of, saved_of, owner_of}
use Rattle.rules.specs.declared.plan.Plan.{Plan}
use Rattle.rules.specs.declared.protocol.Protocol.{Protocol}
use Rattle.rules.specs.declared.protocol.Protocol.TheVariants.{Second, First}
use Rattle.rules.specs.declared.state.State.{State}

-- ---- the plan

unfoldable pub task_obeys : Plan → ℕ → Bool
task_obeys p t =
    all_true
    (not (task_fault (at p.base t) (at p.maximum t))
    ∷ ltb (at p.base t) (2 ^ 8)
    ∷ ltb (at p.maximum t) (2 ^ 8)
    ∷ ltb (at p.uses t) (2 ^ p.locks)
    ∷ [])

unfoldable pub lock_obeys : Plan → ℕ → Bool
lock_obeys p l =
    all_true
    (not (lock_fault (at p.ceiling l) 0 (at p.limit l))
    ∷ ltb (at p.ceiling l) (2 ^ 8)
    ∷ ltb (at p.limit l) (2 ^ 16)
    ∷ not (ceiling_fault p l)
    ∷ not (above_fault p l)
    ∷ [])

-- places past the last task and the last lock hold 0
unfoldable pub spare_obeys : Plan → Bool
spare_obeys p =
    all_true
    (zeros (drop p.tasks p.base)
    ∷ zeros (drop p.tasks p.maximum)
    ∷ zeros (drop p.tasks p.uses)
    ∷ zeros (drop p.locks p.ceiling)
    ∷ zeros (drop p.locks p.limit)
    ∷ [])

unfoldable pub obeys : Plan → Bool
obeys p =
    all_true
    (not (count_fault 0 p.tasks)
    ∷ not (count_fault 1 p.locks)
    ∷ every (task_obeys p) p.tasks
    ∷ every (lock_obeys p) p.locks
    ∷ spare_obeys p
    ∷ [])

-- ---- a task

-- each of the k newest of a row is of one of m locks, in the set of those declared; the places after them are 0
unfoldable pub row_test : ℕ → ℕ → ℕ → ℕ → Bool
row_test m uses row zero = eqb row 0
row_test m uses row (suc k) =
    all_true (ltb (newest row) m ∷ has_bit uses (newest row) ∷ row_test m uses (under row) k ∷ [])

-- each of them has task x for its owner
unfoldable pub own_test : List ℕ → ℕ → ℕ → ℕ → Bool
own_test owner x row zero = true
own_test owner x row (suc k) = all_true (eqb (at owner (newest row)) (x + 1) ∷ own_test owner x (under row) k ∷ [])

-- no task before x has the release number y
unfoldable pub number_new : List ℕ → ℕ → ℕ → Bool
number_new released y x = every (λ z. not (eqb (at released z) y)) x

-- a task is not released and has no takes, or its release number is in range and no earlier task's
unfoldable pub number_test : ℕ → List ℕ → ℕ → ℕ → Bool
number_test accepted released depth x =
    if eqb (at released x) 0 then eqb depth 0
    else all_true (leb (at released x) accepted ∷ number_new released (at released x) x ∷ [])

unfoldable pub task_test : Plan → Figures → Words → ℕ → Bool
task_test p f w x =
    all_true
    (leb (at f.depth x) max_takes
    ∷ row_test p.locks (at p.uses x) (at f.takes x) (at f.depth x)
    ∷ own_test w.owner x (at f.takes x) (at f.depth x)
    ∷ number_test f.accepted f.released (at f.depth x) x
    ∷ leb (at f.delay x) max_delay
    ∷ eqb (at w.kept x) (kept_of p f w.running x)
    ∷ eqb (at w.saved x) (saved_of p f x)
    ∷ [])

-- ---- a lock

unfoldable pub lock_test : Plan → Figures → Words → ℕ → Bool
lock_test p f w l =
    all_true
    (eqb (at w.owner l) (owner_of f p.tasks l)
    ∷ leb (at f.units l) (at p.limit l)
    ∷ (if eqb (at w.owner l) 0 then eqb (at f.units l) 0 else true)
    ∷ [])

-- ---- the rest

-- nobody runs and none is released, or a released task runs
unfoldable pub runs_test : List ℕ → ℕ → ℕ → Bool
runs_test released n r =
    if eqb r nobody then every (λ x. eqb (at released x) 0) n
    else all_true (ltb r n ∷ ltb 0 (at released r) ∷ [])

-- the second word is the greatest kept priority, or at most the user word
unfoldable pub second_test : Protocol → (second user best : ℕ) → Bool
second_test Second second user best = eqb second best
second_test First second user best = leb second user

unfoldable pub head_test : Protocol → Plan → Figures → Words → Bool
head_test pr p f w =
    all_true
    (leb f.accepted max_accepted
    ∷ leb f.eager f.accepted
    ∷ leb w.lazy f.accepted
    ∷ runs_test f.released p.tasks w.running
    ∷ eqb w.user (rank_of p f w.running)
    ∷ second_test pr w.next w.user (greatest (kept_of p f w.running) p.tasks)
    ∷ [])

-- places past the last task and the last lock hold 0
unfoldable pub spare_test : Plan → State → Bool
spare_test p s =
    all_true
    (zeros (drop p.tasks s.released)
    ∷ zeros (drop p.tasks s.kept)
    ∷ zeros (drop p.tasks s.delay)
    ∷ zeros (drop p.tasks s.depth)
    ∷ zeros (drop p.tasks s.takes)
    ∷ zeros (drop p.tasks s.saved)
    ∷ zeros (drop p.locks s.units)
    ∷ zeros (drop p.locks s.owner)
    ∷ [])

unfoldable pub sound_test : Protocol → Plan → State → Bool
sound_test pr p s =
    all_true
    (obeys p
    ∷ head_test pr p (figures_of s) (words_of s)
    ∷ every (task_test p (figures_of s) (words_of s)) p.tasks
    ∷ every (lock_test p (figures_of s) (words_of s)) p.locks
    ∷ spare_test p s
    ∷ [])
