-- Where the tasks are sound, what is asked of the named owners and of the table of kept priorities says the same as the rules' own tests; and the tests
-- one after the other are the test of the rules. Assumes nothing.
use mathlib.Core.Path.{◌≡◌}
use mathlib.Core.Bool.{Bool, true, false}
use mathlib.Core.List.{[], ◌∷◌}
use Prim.Native.Nat.{ℕ, suc, ◌-◌, ◌≤◌, ◌<◌}
use lib.Dec.{eqb}
use borrow.Author.Tests.{eqb-true}
use Rattle.rules.specs.Numbers.Capacity.{max_tasks, max_locks}
use Rattle.rules.specs.Numbers.Choice.{all_true}
use Rattle.rules.specs.Numbers.Place.{at, every, greatest}
use Rattle.rules.specs.Numbers.Row.{has}
use Rattle.rules.specs.Schedulers.Figures.{figures_of, holds}
use Rattle.rules.specs.Schedulers.Lazy.{words_of}
use Rattle.rules.specs.Soundness.Sound.{kept_of, owner_of}
use Rattle.rules.specs.Soundness.SoundTest.{obeys, task_test, lock_test, head_test, spare_test, sound_test}
use Rattle.sound.specs.TasksSound.{TasksSound}
use Rattle.rules.specs.declared.plan.Plan.{Plan}
use Rattle.rules.specs.declared.protocol.Protocol.{Protocol}
use Rattle.rules.specs.declared.state.State.{State}
use Rattle.rules.proofs.Books.Obeyed.{few_tasks, few_locks}
use Rattle.rules.proofs.Soundness.SoundTest.{obeys_so}
use Rattle.rules.proofs.Numbers.Choice.{Each, all_so, so_all}
use Rattle.rules.proofs.Numbers.Place.{every_true, greatest_ext}
use Rattle.sound.proofs.Places.{same_test}
use Rattle.sound.proofs.Owners.{own_so, owner_nobody, owner_unknown, owner_asked}

-- a plan that obeys the rules has no more tasks and locks than there are places
pub obeyed_tasks : (p : Plan) → obeys p ≡ true → p.tasks ≤ max_tasks
obeyed_tasks p e = few_tasks (obeys_so p e)

pub obeyed_locks : (p : Plan) → obeys p ≡ true → p.locks ≤ max_locks
obeyed_locks p e = few_locks (obeys_so p e)

module _ {p : Plan} {s : State} (T : TasksSound p s) where
  -- each task has its open locks in its own name
  mine : (x l : ℕ) → x < p.tasks → holds (figures_of s) x l ≡ true → at s.owner l ≡ suc x
  unfolding task_test holds Each
  mine x l q h =
      let (_, (_, (o, _))) = all_so _ (every_true (task_test p (figures_of s) (words_of s)) p.tasks T.each x q) in
      own_so s.owner x (at s.takes x) (at s.depth x) o l h

  pub named_nobody : (l : ℕ) → at s.owner l ≡ 0 → true ≡ eqb (at s.owner l) (owner_of (figures_of s) p.tasks l)
  named_nobody l = owner_nobody (figures_of s) l p.tasks (at s.owner l) (λ x q h. mine x l q h)

  pub named_unknown : (l : ℕ) → p.tasks < at s.owner l → false ≡ eqb (at s.owner l) (owner_of (figures_of s) p.tasks l)
  named_unknown l = owner_unknown (figures_of s) l p.tasks (at s.owner l) (λ x q h. mine x l q h)

  pub named_asked : (l : ℕ) → (at s.owner l ≡ 0 → ⊥) → at s.owner l ≤ p.tasks
      → has (at s.takes (at s.owner l - 1)) (at s.depth (at s.owner l - 1)) l ≡ eqb (at s.owner l) (owner_of (figures_of s) p.tasks l)
  named_asked l = owner_asked (figures_of s) l p.tasks (at s.owner l) (λ x q h. mine x l q h)

  -- what is kept is what the rules give
  keeps : (x : ℕ) → x < p.tasks → at s.kept x ≡ kept_of p (figures_of s) s.head.running x
  unfolding task_test Each
  keeps x q =
      let (_, (_, (_, (_, (_, (k, _)))))) = all_so _ (every_true (task_test p (figures_of s) (words_of s)) p.tasks T.each x q) in
      eqb-true (at s.kept x) (kept_of p (figures_of s) s.head.running x) k

  pub kept_same : greatest (at s.kept) p.tasks ≡ greatest (kept_of p (figures_of s) s.head.running) p.tasks
  kept_same = greatest_ext (at s.kept) (kept_of p (figures_of s) s.head.running) p.tasks keeps

-- the tests in the code's order: the tasks are asked before the head
abbrev pub in_turn : Protocol → Plan → State → Bool
in_turn pr p s =
    all_true
    (obeys p
    ∷ every (task_test p (figures_of s) (words_of s)) p.tasks
    ∷ head_test pr p (figures_of s) (words_of s)
    ∷ every (lock_test p (figures_of s) (words_of s)) p.locks
    ∷ spare_test p s
    ∷ [])

pub tasks_first : (pr : Protocol) (p : Plan) (s : State) → sound_test pr p s ≡ in_turn pr p s
unfolding sound_test Each
tasks_first pr p s = same_test (sound_test pr p s) (in_turn pr p s)
    (λ e. let (o, (h, (t, r))) = all_so _ e in so_all _ (o, (t, (h, r))))
    (λ e. let (o, (t, (h, r))) = all_so _ e in so_all _ (o, (h, (t, r))))
