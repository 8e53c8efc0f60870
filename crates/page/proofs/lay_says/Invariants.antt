-- what is left of the sentence, laid after what is laid, makes the whole
use Rattle.std.proofs.Common.{◌≤◌, List, ℕ, drop}
use Rattle.page.specs.Page.{Laid}
use Rattle.page.specs.Says.{filled}
use Rattle.page.proofs.lay_says.Given as goal

abbrev pub invariant-loop-byte : goal.invariant-loop-byte
invariant-loop-byte l = record {
  in_range : l.next ≤ l.byte-index;
  left : (new : List ℕ) (place : ℕ) → Laid l.out l.place (filled (drop l.byte-index l.text) (drop l.next l.numbers)) new place
      → Laid l.fn.out l.from (filled l.text l.numbers) new place;
}
