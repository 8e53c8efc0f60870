-- RULES 15: a text written into lent bytes; it is cut where they end. Assumes nothing.
use Rattle.std.specs.Prelude.{◌≡◌, List, [], ◌∷◌, ℕ, ◌+◌, ltb, length, set, if◌then◌else◌}
use Rattle.std.specs.Borrow.{MutBor}
use denote.MutBor.{at_last}
use Rattle.page.specs.declared.Page.{Page}

-- as the code goes along: the lent bytes, and the place that is next, which is at most their end
abbrev pub page : {T : Type 0} → MutBor (List T) → ℕ → Page T
page out place = record { out = out; place = place }

-- one byte more: the same lent bytes, with it at that place
unfoldable pub put : {T : Type 0} → Page T → T → Page T
put p b = page (at_last p.out (set p.out.now p.place b)) (if ltb p.place (length p.out.now) then p.place + 1 else p.place)

-- a text, byte by byte
unfoldable pub typed : {T : Type 0} → Page T → List T → Page T
typed p [] = p
typed p (b ∷ bs) = typed (put p b) bs

-- a text laid into bytes from a place on: they, and the place after it, are those of a page on which it is typed, whoever lent them
pub record Laid (old : List ℕ) (from : ℕ) (text new : List ℕ) (place : ℕ) : Type 0 where
  pub typed : (m : MutBor (List ℕ)) → m.now ≡ old → typed (page m from) text ≡ page (at_last m new) place
