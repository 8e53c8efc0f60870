-- RULES 5.1: the refusal numbers, all in this place, and how a list of tests in order gives one. Assumes nothing.
use Rattle.std.specs.Prelude.{◌≡◌, Bool, true, false, List, [], ◌∷◌, ℕ, ◌+◌, ◌<◌, eqb, ltb, Ok, Err, if◌then◌else◌}
use Rattle.rules.specs.Numbers.Verdict.{Verdict, Tested, refused_at}
use Rattle.rules.specs.Numbers.Place.{first_from}
use Rattle.rules.specs.declared.refusal.Refusal.{Refusal}

unfoldable pub number_of : Refusal → ℕ
-- the book has fewer bytes than its contents take
number_of Refusal.ShortBook = 1
-- an entry counts more records than there may be, or no task
number_of Refusal.WrongCount = 2
-- an entry's kind or offset, or the place where the last body ends, is another than it should be
number_of Refusal.WrongLayout = 3
-- a task's base is 0, or its maximum is below its base
number_of Refusal.WrongTask = 4
-- a lock's ceiling or limit is 0, or its byte 1 is not
number_of Refusal.WrongLock = 5
-- a use names a task or a lock that is not there, or does not come after the use before it
number_of Refusal.WrongUse = 6
-- a lock has fewer than two users, or its ceiling is not the highest base of its users
number_of Refusal.WrongCeiling = 7
-- a record of no event's kind, with something in a field without use, or that works no units
number_of Refusal.WrongEvent = 8
-- there are fewer than four row bytes for each event
number_of Refusal.ShortRows = 9
-- the state is not sound (RULES 8)
number_of Refusal.Unsound = 10
-- the state has accepted as many events as it may
number_of Refusal.Exhausted = 11
-- an act, and nobody runs
number_of Refusal.NobodyRuns = 12
-- the plan does not have that task or that lock
number_of Refusal.Unknown = 13
-- the task is released
number_of Refusal.AlreadyReleased = 14
-- the running task has no use of the lock
number_of Refusal.NotDeclared = 15
-- 16 is withdrawn, and no refusal has its number
-- another task has the lock open
number_of Refusal.OpenElsewhere = 17
-- the running task has as many takes as it may
number_of Refusal.RowFull = 18
-- the running task's newest take is not of this lock
number_of Refusal.NotNewest = 19
-- work of no units
number_of Refusal.NoWork = 20
-- the work would bring an open section above its limit
number_of Refusal.PastLimit = 21
-- the running task still has a lock open
number_of Refusal.StillOpen = 22
-- the lent buffer is shorter than the book that is to be written
number_of Refusal.ShortBuffer = 23
-- a task may take a lock whose ceiling is above the task's maximum
number_of Refusal.AboveMaximum = 24
-- the text of a job is not of its form
number_of Refusal.WrongJob = 25
-- there are fewer than four bytes of event space for each event of a job
number_of Refusal.ShortSpace = 26

-- tests in order, each with its refusal: the first that holds refuses
unfoldable pub first_true : List (Bool × Refusal) → Tested
first_true [] = Ok tt
first_true (t ∷ ts) = if t.0 then Err t.1 else first_true ts

-- a refusal is known by its number
abbrev pub same_number : Refusal → Refusal → Bool
same_number a b = eqb (number_of a) (number_of b)

-- of tests in order the one that gives this refusal, by whether it holds; false where none gives it
unfoldable pub test_for : Refusal → List (Bool × Refusal) → Bool
test_for why [] = false
test_for why (t ∷ ts) = if same_number t.1 why then t.0 else test_for why ts

-- the tests before it
unfoldable pub tests_before : Refusal → List (Bool × Refusal) → List (Bool × Refusal)
tests_before why [] = []
tests_before why (t ∷ ts) = if same_number t.1 why then [] else t ∷ tests_before why ts

-- what tests come to is this refusal
pub record Given (why : Refusal) (tested : Tested) : Type 0 where
  pub refusal : Refusal
  pub given : tested ≡ Err refusal
  pub number : number_of refusal ≡ number_of why

-- a test of `count` records in turn; `first` is the place of the first of them, and `fault` says whether the record i after it offends
pub record Check : Type 0 where
  pub refusal : Refusal
  pub first : ℕ
  pub count : ℕ
  pub fault : ℕ → Bool

-- where the record i after the first offends, that is the place of the refusal; `rest` stands for the checks after this one
unfoldable pub found : Check → ℕ → Verdict → Verdict
found c i rest = if ltb i c.count then refused_at c.refusal (c.first + i) else rest

-- checks in order: the first that finds an offender refuses, at the first place where it does
unfoldable pub first_fault : List Check → Verdict
first_fault [] = Ok tt
first_fault (c ∷ cs) = found c (first_from c.fault 0 c.count) (first_fault cs)

-- of checks in order the one that gives this refusal; one of no records where none gives it
unfoldable pub check_for : Refusal → List Check → Check
check_for why [] = record { refusal = why; first = 0; count = 0; fault = λ _. false }
check_for why (c ∷ cs) = if same_number c.refusal why then c else check_for why cs

-- the checks before it
unfoldable pub checks_before : Refusal → List Check → List Check
checks_before why [] = []
checks_before why (c ∷ cs) = if same_number c.refusal why then [] else c ∷ checks_before why cs

-- what checks come to is this refusal, at this place
pub record GivenAt (why : Refusal) (place : ℕ) (verdict : Verdict) : Type 0 where
  pub refusal : Refusal
  pub given : verdict ≡ refused_at refusal place
  pub number : number_of refusal ≡ number_of why

-- the record i after the first is the first that offends
pub record FirstOffender (c : Check) (i : ℕ) : Type 0 where
  pub within : i < c.count
  pub offends : c.fault i ≡ true
  pub before : (j : ℕ) → j < i → c.fault j ≡ false

-- of checks in order that of this refusal finds its first offender at this place, and those before it find none
pub record Offended (why : Refusal) (place : ℕ) (cs : List Check) : Type 0 where
  pub before : first_fault (checks_before why cs) ≡ Ok tt
  pub index : ℕ
  pub offender : FirstOffender (check_for why cs) index
  pub there : place ≡ (check_for why cs).first + index
