-- A quoted text as its bytes, the number of each character. Assumes nothing.
use Rattle.std.specs.Prelude.{List, [], ◌∷◌, ℕ}
use Prim.Native.Char.{code}
use Prim.Native.String.{String, [] as end, ◌∷◌ as ◌then◌}

unfoldable pub ascii : String → List ℕ
ascii end = []
ascii (c then cs) = code c ∷ ascii cs
