-- Tests that must all hold, as the code asks them by "and". Assumes nothing.
use mathlib.Core.Path.{◌≡◌, refl}
use mathlib.Core.Bool.{Bool, true, false, not, ◌&&◌, ◌||◌, and-true, or-false}
use mathlib.Core.List.{List, [], ◌∷◌}
use Prim.Native.Nat.{ℕ, ◌*◌, ◌%◌, ◌^◌, ◌≤◌, ◌<◌}
use native.Mathlib.Nat.{one-mul, mod-eq_of_lt}
use native.Mathlib.Omega.{arith}
use lib.Dec.{eqb, leb, ltb}
use lib.Pow.{pow-lt}
use borrow.Author.Tests.{lt-ltb, le-ltb, le-leb, lt-leb}
use mathlib.Core.Logic.{⊎_elim}
use Rattle.rules.specs.Numbers.Capacity.{max_tasks, max_locks}
use Rattle.rules.specs.Numbers.Choice.{all_true}
use Rattle.rules.specs.Numbers.Mask.{has_bit}
use Rattle.rules.specs.Numbers.Place.{at}
use Rattle.rules.specs.Books.Plan.{most, count_fault, task_fault, lock_fault, above_fault, users, users_base}
use Rattle.rules.specs.Soundness.SoundTest.{task_obeys, lock_obeys}
use Rattle.rules.specs.declared.plan.Plan.{Plan}
use Rattle.rules.proofs.Numbers.Choice.{lt_or_le}
use Rattle.plan.proofs.Users.{ceiling_parts}

pub all_cons : (t : Bool) (ts : List Bool) → all_true (t ∷ ts) ≡ (t && all_true ts)
unfolding all_true
all_cons true ts = refl
all_cons false ts = refl

pub all_nil : all_true [] ≡ true
unfolding all_true
all_nil = refl

-- for `grind`
pub ruleset all_and = (all_cons, all_nil)

-- 2, of the tasks and of the locks
pub tasks_count : (n : ℕ) → count_fault 0 n ≡ (eqb n 0 || ltb max_tasks n)
unfolding count_fault most
tasks_count n = refl

pub locks_count : (n : ℕ) → count_fault 1 n ≡ ltb max_locks n
unfolding count_fault most
locks_count n = refl

pub ruleset counts = (tasks_count, locks_count)

not_or : (a b : Bool) → not (a || b) ≡ (not a && not b)
not_or true b = refl
not_or false b = refl

not_not : (a : Bool) → not (not a) ≡ a
not_not true = refl
not_not false = refl

and_assoc : (a b c : Bool) → ((a && b) && c) ≡ (a && (b && c))
and_assoc true b c = refl
and_assoc false b c = refl

not_less : (a b : ℕ) → not (ltb a b) ≡ leb b a
not_less a b = ⊎_elim (λ (q : a < b). rw (lt-ltb a b q, lt-leb b a q)) (λ (q : b ≤ a). rw (le-ltb a b q, le-leb b a q)) (lt_or_le a b)

-- of a task of a plan whose figures are bytes
pub task_said : (p : Plan) (t : ℕ) → at p.base t < 2 ^ 8 → at p.maximum t < 2 ^ 8 → p.locks ≤ max_locks
    → task_obeys p t ≡ (not (eqb (at p.base t) 0) && leb (at p.base t) (at p.maximum t) && ltb (at p.uses t) (1 * 2 ^ p.locks % 2 ^ 64))
unfolding task_obeys task_fault
task_said p t h k l =
    let q : 2 ^ p.locks < 2 ^ 64 = (let k : p.locks < 64 = omega arith in pow-lt k) in
    rw (lt-ltb (at p.base t) (2 ^ 8) h, lt-ltb (at p.maximum t) (2 ^ 8) k, one-mul (2 ^ p.locks), mod-eq_of_lt q)
    (simp (all_and, not_or, not_less, and-true, and_assoc))

-- of a lock
pub lock_said : (p : Plan) (shared l : ℕ) → has_bit shared l ≡ leb 2 (users p l) → at p.ceiling l < 2 ^ 8 → at p.limit l < 2 ^ 16
    → lock_obeys p l
    ≡ (not (eqb (at p.ceiling l) 0) && not (eqb (at p.limit l) 0) && has_bit shared l && eqb (at p.ceiling l) (users_base p l) && not (above_fault p l))
unfolding lock_obeys lock_fault
lock_said p shared l s h k =
    rw (lt-ltb (at p.ceiling l) (2 ^ 8) h, lt-ltb (at p.limit l) (2 ^ 16) k, ceiling_parts p shared l s)
    (simp (all_and, not_or, not_not, or-false, and-true, and_assoc))
