-- RULES 19.5: what is said of a line with a mistake, and of a refusal. Assumes nothing.
use Rattle.std.specs.Prelude.{List, [], ◌∷◌, ◌++◌, ℕ, ◌-◌}
use Rattle.rules.specs.Numbers.Refusal.{number_of}
use Rattle.rules.specs.declared.refusal.Refusal.{Refusal}
use Rattle.page.specs.Ascii.{ascii}
use Rattle.page.specs.Says.{says}
use Rattle.texts.specs.Kind.{most_of}
use Rattle.texts.specs.declared.kind.Kind.{Kind}
use Rattle.texts.specs.declared.kind.Kind.TheVariants.{Task, Lock, Use, Release, Acquire, Unlock, Work, Finish, Tick, Job}
use Rattle.texts.specs.declared.number.Mistake.{Mistake}
use Rattle.texts.specs.declared.number.Mistake.TheVariants.{Missing, NoNumber, TooLarge, TooMany}
use Rattle.texts.specs.declared.line.Line.{Line}
use Rattle.wording.specs.Meaning.{meaning_of}

-- how a record is written
unfoldable pub form_of : Kind → List ℕ
form_of Task = ascii "task BASE MAXIMUM\n"
form_of Lock = ascii "lock CEILING LIMIT\n"
form_of Use = ascii "use TASK LOCK\n"
form_of Release = ascii "release TASK\n"
form_of Acquire = ascii "acquire LOCK\n"
form_of Unlock = ascii "unlock LOCK\n"
form_of Work = ascii "work UNITS\n"
form_of Finish = ascii "finish\n"
form_of Tick = ascii "tick\n"
form_of Job = ascii "job TASK ITEMS\n"

-- what is wrong with a word of line n; the number that stands there may be at most this
unfoldable pub wrong_word : Mistake → (n word most : ℕ) → List ℕ
wrong_word Missing n word most = says "line @: word @ is missing; write " (n ∷ word ∷ most ∷ [])
wrong_word NoNumber n word most = says "line @: word @ is no decimal number; write " (n ∷ word ∷ most ∷ [])
wrong_word TooLarge n word most = says "line @: word @ is more than @; write " (n ∷ word ∷ most ∷ [])
wrong_word TooMany n word most = says "line @: word @ is one too many; write " (n ∷ word ∷ most ∷ [])

-- a refusal, and one with the line that it comes from
unfoldable pub refusal_words : Refusal → ℕ → List ℕ
refusal_words why place = says "refused @ @: " (number_of why ∷ place ∷ []) ++ meaning_of why ++ ascii "\n"

unfoldable pub refusal_at_line : Refusal → (place n : ℕ) → List ℕ
refusal_at_line why place n = says "refused @ @, line @: " (number_of why ∷ place ∷ n ∷ []) ++ meaning_of why ++ ascii "\n"

-- of a line with a mistake; the numbers of a record are the words from 2 on
unfoldable pub mistake_of : ℕ → Line → List ℕ
mistake_of n Line.Blank = []
mistake_of n (Line.Record part w) = []
mistake_of n (Line.Job w k) = []
mistake_of n Line.Unknown =
    says "line @: no record has this name; the names are task, lock, use, release, acquire, unlock, work, finish, tick and job\n" (n ∷ [])
mistake_of n (Line.Wrong kind word m) = wrong_word m n word (most_of kind (word - 2)) ++ form_of kind
mistake_of n (Line.Refused why place) = refusal_at_line why place n
