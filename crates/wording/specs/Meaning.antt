-- RULES 19.6: what the number of a refusal means, in words. Assumes nothing.
use Rattle.std.specs.Prelude.{List, [], ◌∷◌, ℕ}
use Rattle.rules.specs.Numbers.Capacity.{max_tasks, max_locks, max_uses, max_events, max_takes, max_accepted}
use Rattle.rules.specs.declared.refusal.Refusal.{Refusal}
use Rattle.page.specs.Ascii.{ascii}
use Rattle.page.specs.Says.{says}

unfoldable pub meaning_of : Refusal → List ℕ
meaning_of Refusal.ShortBook = ascii "the book has fewer than 32 bytes"
meaning_of Refusal.WrongCount =
    says "a book has 1 to @ tasks, and at most @ locks, @ uses and @ events" (max_tasks ∷ max_locks ∷ max_uses ∷ max_events ∷ [])
meaning_of Refusal.WrongLayout = ascii "an entry has another kind or offset than it should, or the book does not end with its last body"
meaning_of Refusal.WrongTask = ascii "a task's base is 0, or its maximum is below its base"
meaning_of Refusal.WrongLock = ascii "a lock's ceiling or limit is 0, or its second byte is not"
meaning_of Refusal.WrongUse = ascii "a use names no task or lock of the plan, or does not come after the use before it"
meaning_of Refusal.WrongCeiling = ascii "a lock has fewer than two users, or its ceiling is not their highest base"
meaning_of Refusal.WrongEvent = ascii "an event has no such kind, something in a field that it does not use, or no work to do"
meaning_of Refusal.ShortRows = ascii "there are fewer than four row bytes for each event"
meaning_of Refusal.Unsound = ascii "the state is not sound"
meaning_of Refusal.Exhausted = says "@ events were accepted already" (max_accepted ∷ [])
meaning_of Refusal.NobodyRuns = ascii "nobody runs who could do it"
meaning_of Refusal.Unknown = ascii "the plan has no such task or lock"
meaning_of Refusal.AlreadyReleased = ascii "the task is released already"
meaning_of Refusal.NotDeclared = ascii "the running task may not use the lock"
meaning_of Refusal.OpenElsewhere = ascii "another task has the lock open"
meaning_of Refusal.RowFull = says "the running task has @ takes that it has not given back" (max_takes ∷ [])
meaning_of Refusal.NotNewest = ascii "the newest take of the running task is not of this lock"
meaning_of Refusal.NoWork = ascii "the work is 0 units"
meaning_of Refusal.PastLimit = ascii "the work would take an open section past its limit"
meaning_of Refusal.StillOpen = ascii "the task finishes with a lock open"
meaning_of Refusal.ShortBuffer = ascii "the buffer is shorter than the book"
meaning_of Refusal.AboveMaximum = ascii "a use names a lock whose ceiling is above the task's maximum"
meaning_of Refusal.WrongJob = ascii "a job goes like w2 [0 w1], one space apart, with units 1 to 65535, locks 0 to 31 and at most 8 deep"
meaning_of Refusal.ShortSpace = ascii "there are fewer than four bytes of event space for each event of the job"
