-- RULES 19.9: what a call of the kernel and the refusal of an event were about. Assumes nothing.
use Rattle.std.specs.Prelude.{List, [], ◌∷◌, ◌++◌, ℕ, eqb, if◌then◌else◌}
use Rattle.rules.specs.Numbers.Refusal.{number_of}
use Rattle.rules.specs.declared.refusal.Refusal.{Refusal}
use Rattle.page.specs.Ascii.{ascii}
use Rattle.page.specs.Says.{says}
use Rattle.wording.specs.Meaning.{meaning_of}
use Rattle.wording.specs.declared.reason.Facts.{Facts}

-- a call: the event's number, the task that ran before it, the lock that it names, the task that runs after it and its user word
unfoldable pub call_line : (n before lock after user : ℕ) → List ℕ
call_line n before lock after user =
    if eqb after before then says "event @: task @ gave lock @ back and called the kernel; nobody had waited for task @\n" (n ∷ before ∷ lock ∷ before ∷ [])
    else says "event @: task @ gave lock @ back and called the kernel; task @ had waited for task @ and runs at @\n"
    (n ∷ before ∷ lock ∷ after ∷ before ∷ user ∷ [])

-- the refusal of event n
unfoldable pub stop_line : ℕ → Refusal → List ℕ
stop_line n why = says "event @: refused @: " (n ∷ number_of why ∷ []) ++ meaning_of why ++ ascii "\n"

-- the lock that was to be given back is not that of the newest of so many takes, and the work passes a limit
unfoldable pub newest_reason : (running depth newest named : ℕ) → List ℕ
newest_reason running depth newest named =
    if eqb depth 0 then says "task @ has no lock open, and lock @ was to be given back\n" (running ∷ named ∷ [])
    else says "the newest take of task @ is of lock @, and lock @ was to be given back\n" (running ∷ newest ∷ named ∷ [])

unfoldable pub past_reason : (running units limit past amount : ℕ) → List ℕ
past_reason running units limit past amount =
    says "task @ worked @ units of the @ that lock @ allows, and @ more would pass them\n" (running ∷ units ∷ limit ∷ past ∷ amount ∷ [])

-- what the refusal was about, by the facts of the state that refused it; the numbers that no event of a book is refused by have no words
unfoldable pub reason_of : Refusal → Facts → List ℕ
reason_of Refusal.ShortBook f = []
reason_of Refusal.WrongCount f = []
reason_of Refusal.WrongLayout f = []
reason_of Refusal.WrongTask f = []
reason_of Refusal.WrongLock f = []
reason_of Refusal.WrongUse f = []
reason_of Refusal.WrongCeiling f = []
reason_of Refusal.WrongEvent f = []
reason_of Refusal.ShortRows f = []
reason_of Refusal.Unsound f = []
reason_of Refusal.Exhausted f = []
reason_of Refusal.NobodyRuns f = ascii "every task that was released has finished\n"
reason_of Refusal.Unknown f = says "the plan has @ tasks and @ locks, counted from 0\n" (f.tasks ∷ f.locks ∷ [])
reason_of Refusal.AlreadyReleased f = says "task @ has not finished since its release\n" (f.named ∷ [])
reason_of Refusal.NotDeclared f = says "the plan gives task @ no use of lock @\n" (f.running ∷ f.named ∷ [])
reason_of Refusal.OpenElsewhere f = says "task @ took lock @ and has not given it back\n" (f.holder ∷ f.named ∷ [])
reason_of Refusal.RowFull f = says "task @ may have no more\n" (f.running ∷ [])
reason_of Refusal.NotNewest f = newest_reason f.running f.depth f.newest f.named
reason_of Refusal.NoWork f = []
reason_of Refusal.PastLimit f = past_reason f.running f.units f.limit f.past f.amount
reason_of Refusal.StillOpen f = says "task @ has lock @ open\n" (f.running ∷ f.newest ∷ [])
reason_of Refusal.ShortBuffer f = []
reason_of Refusal.AboveMaximum f = []
reason_of Refusal.WrongJob f = []
reason_of Refusal.ShortSpace f = []
