-- RULES 6.1, 6.2: a plan from its records, one number for a record, low byte first: refusals 2, 4 to 7 and 24 with their places, or the plan.
-- Assumes nothing.
use Rattle.std.specs.Prelude.{Bool, ◌&&◌, ◌||◌, List, [], ◌∷◌, ◌++◌, ℕ, zero, suc, ◌+◌, ◌*◌, ◌-◌, ◌/◌, ◌%◌, eqb, leb, ltb, length, set, replicate, Result, Ok, Err, if◌then◌else◌}
use Rattle.rules.specs.Numbers.Verdict.{Verdict, refused_at}
use Rattle.rules.specs.Numbers.Capacity.{max_tasks, max_locks}
use Rattle.rules.specs.Numbers.Place.{at, tabulate}
use Rattle.rules.specs.Numbers.Refusal.{Check, first_fault}
use Rattle.rules.specs.Numbers.Mask.{with_bit}
use Rattle.rules.specs.Books.Plan.{count_fault, task_fault, lock_fault, ceiling_fault, maximum_fault}
use Rattle.rules.specs.declared.plan.Plan.{Plan}
use Rattle.rules.specs.declared.answer.Fault.{Fault}
use Rattle.rules.specs.declared.refusal.Refusal.{Refusal}
use Rattle.rules.specs.declared.refusal.Refusal.TheVariants.{WrongCount, WrongTask, WrongLock, WrongUse, WrongCeiling, AboveMaximum}

-- RULES 4.4: the two bytes of a task, its base and its maximum
abbrev pub task_base : ℕ → ℕ
task_base w = w % 256

abbrev pub task_maximum : ℕ → ℕ
task_maximum w = w / 256 % 256

-- RULES 4.5: the first two bytes of a lock, and its limit in the others
abbrev pub lock_ceiling : ℕ → ℕ
lock_ceiling w = w % 256

abbrev pub lock_second : ℕ → ℕ
lock_second w = w / 256 % 256

abbrev pub lock_limit : ℕ → ℕ
lock_limit w = w / 65536 % 65536

-- RULES 4.6: the two bytes of a use, and the key by which uses are in order: by task, and by lock where the task is the same
abbrev pub use_task : ℕ → ℕ
use_task w = w % 256

abbrev pub use_lock : ℕ → ℕ
use_lock w = w / 256 % 256

abbrev pub use_key : ℕ → ℕ
use_key w = use_task w * 256 + use_lock w

-- 4 and 5, of the record at a place
unfoldable pub task_fault_at : List ℕ → ℕ → Bool
task_fault_at tasks t = task_fault (task_base (at tasks t)) (task_maximum (at tasks t))

unfoldable pub lock_fault_at : List ℕ → ℕ → Bool
lock_fault_at locks l = lock_fault (lock_ceiling (at locks l)) (lock_second (at locks l)) (lock_limit (at locks l))

-- 6: its task or its lock is not there, or it does not come after the use before it
unfoldable pub use_fault : ℕ → ℕ → List ℕ → ℕ → Bool
use_fault n m uses i = leb n (use_task (at uses i)) || leb m (use_lock (at uses i)) || (ltb 0 i && leb (use_key (at uses i)) (use_key (at uses (i - 1))))

-- 24, of a use: the ceiling of its lock is above the maximum of its task
unfoldable pub use_above : List ℕ → List ℕ → List ℕ → ℕ → Bool
use_above tasks locks uses i = maximum_fault (task_maximum (at tasks (use_task (at uses i)))) (lock_ceiling (at locks (use_lock (at uses i))))

-- the locks that each task may take, by the first k uses
unfoldable pub masks_of : List ℕ → ℕ → List ℕ
masks_of uses zero = replicate max_tasks 0
masks_of uses (suc k) = set (masks_of uses k) (use_task (at uses k)) (with_bit (at (masks_of uses k) (use_task (at uses k))) (use_lock (at uses k)))

unfoldable pub plan_of : List ℕ → List ℕ → List ℕ → Plan
plan_of tasks locks uses =
    record {
      tasks = length tasks;
      locks = length locks;
      base = tabulate max_tasks (λ t. task_base (at tasks t));
      maximum = tabulate max_tasks (λ t. task_maximum (at tasks t));
      ceiling = tabulate max_locks (λ l. lock_ceiling (at locks l));
      limit = tabulate max_locks (λ l. lock_limit (at locks l));
      uses = masks_of uses (length uses);
    }

-- every figure 0
abbrev pub blank_plan : Plan
blank_plan =
    record {
      tasks = 0;
      locks = 0;
      base = replicate max_tasks 0;
      maximum = replicate max_tasks 0;
      ceiling = replicate max_locks 0;
      limit = replicate max_locks 0;
      uses = replicate max_tasks 0;
    }

-- 2, of an entry: its count of records, n tasks, m locks or u uses, is out of range
unfoldable pub count_fault_of : ℕ → ℕ → ℕ → ℕ → Bool
count_fault_of n m u e = count_fault e (if eqb e 0 then n else if eqb e 1 then m else u)

-- the records: 2 (the entry, 1 to 3), 4, 5, 6
unfoldable pub record_checks : List ℕ → List ℕ → List ℕ → List Check
record_checks tasks locks uses =
    (record { refusal = WrongCount; first = 1; count = 3; fault = count_fault_of (length tasks) (length locks) (length uses) })
    ∷ (record { refusal = WrongTask; first = 0; count = length tasks; fault = task_fault_at tasks })
    ∷ (record { refusal = WrongLock; first = 0; count = length locks; fault = lock_fault_at locks })
    ∷ (record { refusal = WrongUse; first = 0; count = length uses; fault = use_fault (length tasks) (length locks) uses })
    ∷ []

-- then the ceilings of the plan that they make (7), and the uses again, each by its task's maximum (24)
unfoldable pub load_checks : List ℕ → List ℕ → List ℕ → List Check
load_checks tasks locks uses =
    record_checks tasks locks uses
    ++ (record { refusal = WrongCeiling; first = 0; count = length locks; fault = ceiling_fault (plan_of tasks locks uses) })
    ∷ (record { refusal = AboveMaximum; first = 0; count = length uses; fault = use_above tasks locks uses })
    ∷ []

-- what the load of a plan comes to: what was refused, and the plan, which is the blank one beside a refusal
pub record Loaded : Type 0 where
  pub verdict : Verdict
  pub plan : Plan

abbrev pub passed_load : Plan → Loaded
passed_load p = record { verdict = Ok tt; plan = p }

abbrev pub refused_load : Refusal → ℕ → Loaded
refused_load why place = record { verdict = refused_at why place; plan = blank_plan }

unfoldable pub loaded_as : Verdict → Plan → Loaded
loaded_as (Ok _) p = passed_load p
loaded_as (Err f) p = refused_load f.why f.place

unfoldable pub load_of : List ℕ → List ℕ → List ℕ → Loaded
load_of tasks locks uses = loaded_as (first_fault (load_checks tasks locks uses)) (plan_of tasks locks uses)

-- as the code answers it: the plan, or what was refused
unfoldable pub loaded_with : Result Plan Fault → Loaded
loaded_with (Ok p) = passed_load p
loaded_with (Err f) = refused_load f.why f.place
