-- Refusals are numbered from 1, with two digits at most: 0 says that nothing is refused; and none has the number 16. Assumes nothing.
use mathlib.Core.Logic.{◌≢◌}
use Prim.Native.Nat.{◌<◌}
use native.Mathlib.Omega.{arith}
use Rattle.rules.specs.Numbers.Refusal.{number_of}
use Rattle.rules.specs.declared.refusal.Refusal.{Refusal}

in_range : (why : Refusal) → (0 < number_of why) × (number_of why < 100) × (number_of why ≢ 16)
unfolding number_of
in_range Refusal.ShortBook = (omega arith, omega arith, λ e. omega arith)
in_range Refusal.WrongCount = (omega arith, omega arith, λ e. omega arith)
in_range Refusal.WrongLayout = (omega arith, omega arith, λ e. omega arith)
in_range Refusal.WrongTask = (omega arith, omega arith, λ e. omega arith)
in_range Refusal.WrongLock = (omega arith, omega arith, λ e. omega arith)
in_range Refusal.WrongUse = (omega arith, omega arith, λ e. omega arith)
in_range Refusal.WrongCeiling = (omega arith, omega arith, λ e. omega arith)
in_range Refusal.WrongEvent = (omega arith, omega arith, λ e. omega arith)
in_range Refusal.ShortRows = (omega arith, omega arith, λ e. omega arith)
in_range Refusal.Unsound = (omega arith, omega arith, λ e. omega arith)
in_range Refusal.Exhausted = (omega arith, omega arith, λ e. omega arith)
in_range Refusal.NobodyRuns = (omega arith, omega arith, λ e. omega arith)
in_range Refusal.Unknown = (omega arith, omega arith, λ e. omega arith)
in_range Refusal.AlreadyReleased = (omega arith, omega arith, λ e. omega arith)
in_range Refusal.NotDeclared = (omega arith, omega arith, λ e. omega arith)
in_range Refusal.OpenElsewhere = (omega arith, omega arith, λ e. omega arith)
in_range Refusal.RowFull = (omega arith, omega arith, λ e. omega arith)
in_range Refusal.NotNewest = (omega arith, omega arith, λ e. omega arith)
in_range Refusal.NoWork = (omega arith, omega arith, λ e. omega arith)
in_range Refusal.PastLimit = (omega arith, omega arith, λ e. omega arith)
in_range Refusal.StillOpen = (omega arith, omega arith, λ e. omega arith)
in_range Refusal.ShortBuffer = (omega arith, omega arith, λ e. omega arith)
in_range Refusal.AboveMaximum = (omega arith, omega arith, λ e. omega arith)
in_range Refusal.WrongJob = (omega arith, omega arith, λ e. omega arith)
in_range Refusal.ShortSpace = (omega arith, omega arith, λ e. omega arith)

pub numbered : (why : Refusal) → (0 < number_of why) × (number_of why < 100)
numbered why = let (a, b, c) = in_range why in (a, b)

-- 16 is withdrawn
pub withdrawn : (why : Refusal) → number_of why ≢ 16
withdrawn why = let (a, b, c) = in_range why in c
