-- Each refusal has a number of its own. Assumes nothing.
use mathlib.Core.Path.{◌≡◌, refl, sym, ◌∙◌, ap}
use mathlib.Core.List.{List, [], ◌∷◌}
use Prim.Native.Nat.{ℕ, ◌<◌}
use native.Mathlib.Omega.{arith}
use lib.ListN.{get_or}
use Rattle.rules.specs.Numbers.Refusal.{number_of}
use Rattle.rules.specs.declared.refusal.Refusal.{Refusal}
use Rattle.rules.specs.declared.refusal.Refusal.TheVariants.{ShortBook, WrongCount, WrongLayout, WrongTask, WrongLock, WrongUse, WrongCeiling, WrongEvent, ShortRows, Unsound, Exhausted, NobodyRuns, Unknown, AlreadyReleased, NotDeclared, OpenElsewhere, RowFull, NotNewest, NoWork, PastLimit, StillOpen, ShortBuffer, AboveMaximum, WrongJob, ShortSpace}
use Rattle.rules.proofs.Numbers.Refusals.{numbered}

-- the refusals in the order of their numbers, with one in the place of 0 and of 16
refusals : List Refusal
refusals =
    ShortBook ∷ ShortBook ∷ WrongCount ∷ WrongLayout ∷ WrongTask
    ∷ WrongLock ∷ WrongUse ∷ WrongCeiling ∷ WrongEvent ∷ ShortRows
    ∷ Unsound ∷ Exhausted ∷ NobodyRuns ∷ Unknown ∷ AlreadyReleased
    ∷ NotDeclared ∷ ShortBook ∷ OpenElsewhere ∷ RowFull ∷ NotNewest
    ∷ NoWork ∷ PastLimit ∷ StillOpen ∷ ShortBuffer ∷ AboveMaximum
    ∷ WrongJob ∷ ShortSpace ∷ []

from_number : ℕ → Refusal
from_number n = get_or refusals n ShortBook

back : (why : Refusal) → from_number (number_of why) ≡ why
unfolding number_of from_number refusals
back ShortBook = refl
back WrongCount = refl
back WrongLayout = refl
back WrongTask = refl
back WrongLock = refl
back WrongUse = refl
back WrongCeiling = refl
back WrongEvent = refl
back ShortRows = refl
back Unsound = refl
back Exhausted = refl
back NobodyRuns = refl
back Unknown = refl
back AlreadyReleased = refl
back NotDeclared = refl
back OpenElsewhere = refl
back RowFull = refl
back NotNewest = refl
back NoWork = refl
back PastLimit = refl
back StillOpen = refl
back ShortBuffer = refl
back AboveMaximum = refl
back WrongJob = refl
back ShortSpace = refl

pub other_number : (why other : Refusal) → (why ≡ other → ⊥) → number_of why ≡ number_of other → ⊥
other_number why other n e = n (sym (back why) ∙ ap from_number e ∙ back other)

-- all but the first three have numbers past 3
pub past_three : (why : Refusal) → (why ≡ ShortBook → ⊥) → (why ≡ WrongCount → ⊥) → (why ≡ WrongLayout → ⊥) → 3 < number_of why
unfolding number_of
past_three why a b c = omega (arith, (numbered why).0, other_number why ShortBook a, other_number why WrongCount b, other_number why WrongLayout c)
