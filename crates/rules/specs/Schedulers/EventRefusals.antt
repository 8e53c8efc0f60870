-- RULES 9.2: the tests of an event after 10, in order, where the figures are f and task r runs. Both schedulers use them. Assumes nothing.
use Rattle.std.specs.Prelude.{Bool, not, ◌&&◌, ◌||◌, List, [], ◌∷◌, ℕ, ◌+◌, eqb, leb, ltb}
use Rattle.rules.specs.Numbers.Verdict.{Tested}
use Rattle.rules.specs.Numbers.Capacity.{max_takes, max_accepted, nobody}
use Rattle.rules.specs.Numbers.Place.{at, any}
use Rattle.rules.specs.Numbers.Refusal.{first_true}
use Rattle.rules.specs.Numbers.Row.{newest}
use Rattle.rules.specs.Books.Plan.{declares}
use Rattle.rules.specs.Schedulers.Figures.{Figures, holds}
use Rattle.rules.specs.declared.plan.Plan.{Plan}
use Rattle.rules.specs.declared.event.Event.{Event}
use Rattle.rules.specs.declared.event.Event.TheVariants.{Release, Acquire, Unlock, Work, Finish, Tick}
use Rattle.rules.specs.declared.refusal.Refusal.{Refusal}
use Rattle.rules.specs.declared.refusal.Refusal.TheVariants.{Exhausted, NobodyRuns, Unknown, AlreadyReleased, NotDeclared}
use Rattle.rules.specs.declared.refusal.Refusal.TheVariants.{OpenElsewhere, RowFull, NotNewest, NoWork, PastLimit, StillOpen}

-- lock l is open for one of the first n tasks other than r
unfoldable pub elsewhere : Figures → ℕ → ℕ → ℕ → Bool
elsewhere f n r l = any (λ x. not (eqb x r) && holds f x l) n

-- the newest take of task r is not of lock l, or it has none
unfoldable pub not_newest : Figures → ℕ → ℕ → Bool
not_newest f r l = eqb (at f.depth r) 0 || not (eqb (newest (at f.takes r)) l)

-- a units more would take an open section of task r past its limit
unfoldable pub past_limit : Plan → Figures → ℕ → ℕ → Bool
past_limit p f r a = any (λ l. holds f r l && ltb (at p.limit l) (at f.units l + a)) p.locks

-- the order of each event's tests; a test is given by whether it holds
unfoldable pub release_order : (unknown out : Bool) → List (Bool × Refusal)
release_order unknown out = (unknown, Unknown) ∷ (out, AlreadyReleased) ∷ []

unfoldable pub acquire_order : (idle unknown undeclared other full : Bool) → List (Bool × Refusal)
acquire_order idle unknown undeclared other full =
    (idle, NobodyRuns) ∷ (unknown, Unknown) ∷ (undeclared, NotDeclared) ∷ (other, OpenElsewhere) ∷ (full, RowFull) ∷ []

unfoldable pub unlock_order : (idle unknown older : Bool) → List (Bool × Refusal)
unlock_order idle unknown older = (idle, NobodyRuns) ∷ (unknown, Unknown) ∷ (older, NotNewest) ∷ []

unfoldable pub work_order : (none idle past : Bool) → List (Bool × Refusal)
work_order none idle past = (none, NoWork) ∷ (idle, NobodyRuns) ∷ (past, PastLimit) ∷ []

unfoldable pub finish_order : (idle still : Bool) → List (Bool × Refusal)
finish_order idle still = (idle, NobodyRuns) ∷ (still, StillOpen) ∷ []

-- the tests themselves
unfoldable pub tests_of : Plan → Figures → ℕ → Event → List (Bool × Refusal)
tests_of p f r (Release t) = release_order (leb p.tasks t) (ltb 0 (at f.released t))
tests_of p f r (Acquire l) =
    acquire_order (eqb r nobody) (leb p.locks l) (not (declares p r l)) (elsewhere f p.tasks r l) (leb max_takes (at f.depth r))
tests_of p f r (Unlock l) = unlock_order (eqb r nobody) (leb p.locks l) (not_newest f r l)
tests_of p f r (Work a) = work_order (eqb a 0) (eqb r nobody) (past_limit p f r a)
tests_of p f r Finish = finish_order (eqb r nobody) (ltb 0 (at f.depth r))
tests_of p f r Tick = []

-- 11 comes before them all
abbrev pub all_tests : Plan → Figures → ℕ → Event → List (Bool × Refusal)
all_tests p f r e = (leb max_accepted f.accepted, Exhausted) ∷ tests_of p f r e

unfoldable pub refusal_of : Plan → Figures → ℕ → Event → Tested
refusal_of p f r e = first_true (all_tests p f r e)
