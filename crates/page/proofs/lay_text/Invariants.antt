-- what is left of the text, laid after what is laid, makes the whole
use Rattle.std.proofs.Common.{List, ℕ, drop}
use Rattle.page.specs.Page.{Laid}
use Rattle.page.proofs.lay_text.Given as goal

abbrev pub invariant-loop-byte : goal.invariant-loop-byte
invariant-loop-byte l = (new : List ℕ) (place : ℕ) → Laid l.out l.place (drop l.byte-index l.text) new place → Laid l.fn.out l.from l.text new place
