-- A sentence with numbers in it: where it has `@`, the next number stands in decimal. Assumes nothing.
use Rattle.std.specs.Prelude.{List, [], ◌∷◌, ◌++◌, ℕ, eqb, drop, if◌then◌else◌}
use Prim.Native.String.{String}
use Rattle.rules.specs.Numbers.Place.{at}
use Rattle.page.specs.Ascii.{ascii}
use Rattle.page.specs.Decimal.{digits}

-- `@`
abbrev pub mark : ℕ
mark = 64

-- the bytes of a sentence with these numbers in turn, and 0 where there are no more of them
unfoldable pub filled : List ℕ → List ℕ → List ℕ
filled [] ns = []
filled (c ∷ cs) ns = if eqb c mark then digits (at ns 0) ++ filled cs (drop 1 ns) else c ∷ filled cs ns

abbrev pub says : String → List ℕ → List ℕ
says s ns = filled (ascii s) ns
