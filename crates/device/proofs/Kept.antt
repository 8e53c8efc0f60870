-- What is read of a table of records, and that the plan check sees the same in it as in all the numbers. Assumes nothing.
use mathlib.Core.Path.{◌≡◌, refl, sym, ◌∙◌, ap, ap₂}
use mathlib.Core.Logic.{⊎_elim}
use mathlib.Core.Bool.{Bool, true, false, ◌||◌}
use mathlib.Core.List.{List, [], ◌∷◌, ◌++◌}
use Prim.Native.Nat.{ℕ, ◌+◌, ◌≤◌, ◌<◌, min}
use native.Mathlib.Omega.{arith}
use lib.Dec.{ltb, eqb}
use lib.ListN.{length, get_or, set, take, length-map, get_or-map}
use lib.Seq.{length-take-le, take-length}
use borrow.Author.Tests.{lt-ltb}
use Rattle.rules.specs.Numbers.Capacity.{max_tasks}
use Rattle.rules.specs.Books.Plan.{most, count_fault}
use Rattle.rules.specs.Books.Load.{plan_of, count_fault_of, record_checks, load_checks, refused_load, loaded_as, load_of}
use Rattle.rules.specs.declared.refusal.Refusal.TheVariants.{WrongCount}
use Rattle.rules.proofs.Numbers.Choice.{lt_or_le}
use Rattle.rules.proofs.Numbers.Place.{first_stop}
use Rattle.rules.proofs.Numbers.Checks.{check_finds}
use Rattle.std.proofs.lemmas.List.{take_more, take_more_set}
use Rattle.device.specs.Table.{word_of, numbers_of}
use Rattle.device.specs.declared.table.TaskRecord.{TaskRecord}

-- what stands past the end
abbrev pub no_record : TaskRecord
no_record = record { base = 0; maximum = 0 }

-- a turn of the loop over the table: one number more
pub read_more : (ts : List TaskRecord) (numbers : List ℕ) (i w : ℕ) → i < length numbers → i < length ts → w ≡ word_of (get_or ts i no_record)
    → take i numbers ≡ take i (numbers_of ts) → take (i + 1) (set numbers i w) ≡ take (i + 1) (numbers_of ts)
read_more ts numbers i w a b e same =
    let next : i < length (numbers_of ts) = omega (arith, b, length-map ts word_of) in
    take_more_set numbers i w a ∙ ap₂ (λ xs v. xs ++ (v ∷ [])) same (e ∙ sym (get_or-map word_of ts i no_record)) ∙ sym (take_more (numbers_of ts) i 0 next)

-- more tasks than a plan may have are refused, whatever they are
pub too_many : (tasks locks uses : List ℕ) → max_tasks < length tasks → load_of tasks locks uses ≡ refused_load WrongCount 1
unfolding load_of load_checks record_checks loaded_as count_fault_of count_fault most
too_many tasks locks uses h =
    ap (λ v. loaded_as v (plan_of tasks locks uses)) (check_finds _ _ 0 (sym
    (first_stop (count_fault_of (length tasks) (length locks) (length uses)) 0 2
    (or_right (eqb (length tasks) 0) (ltb max_tasks (length tasks)) (lt-ltb max_tasks (length tasks) h)))) (omega arith))
  where
    or_right : (a b : Bool) → b ≡ true → (a || b) ≡ true
    or_right true b e = refl
    or_right false b e = e

-- so whatever follows the first one too many changes nothing
pub front_loads : (tasks locks uses : List ℕ) → load_of (take (min (length tasks) (max_tasks + 1)) tasks) locks uses ≡ load_of tasks locks uses
front_loads tasks locks uses = ⊎_elim many few (lt_or_le max_tasks (length tasks))
  where
    many : max_tasks < length tasks → load_of (take (min (length tasks) (max_tasks + 1)) tasks) locks uses ≡ load_of tasks locks uses
    many h =
        let seen : length (take (min (length tasks) (max_tasks + 1)) tasks) ≡ max_tasks + 1 = length-take-le (min (length tasks) (max_tasks + 1)) tasks (omega arith)
        ∙ omega arith in
        too_many (take (min (length tasks) (max_tasks + 1)) tasks) locks uses (omega (arith, seen)) ∙ sym (too_many tasks locks uses h)

    few : length tasks ≤ max_tasks → load_of (take (min (length tasks) (max_tasks + 1)) tasks) locks uses ≡ load_of tasks locks uses
    few h = let e : min (length tasks) (max_tasks + 1) ≡ length tasks = omega arith in ap (λ ws. load_of ws locks uses) (ap (λ k. take k tasks) e ∙ take-length tasks)
