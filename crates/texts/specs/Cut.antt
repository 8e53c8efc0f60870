-- RULES 19.1: bytes cut at a byte, spaces passed over, and two words compared. Assumes nothing.
use Rattle.std.specs.Prelude.{Bool, true, false, not, ◌&&◌, List, [], ◌∷◌, ℕ, suc, eqb, take, drop, if◌then◌else◌}

abbrev pub newline : ℕ
newline = 10

abbrev pub return : ℕ
return = 13

abbrev pub space : ℕ
space = 32

-- `#`
abbrev pub hash : ℕ
hash = 35

-- how many bytes stand before the first for which a test holds
unfoldable pub until : (ℕ → Bool) → List ℕ → ℕ
until stop [] = 0
until stop (c ∷ cs) = if stop c then 0 else suc (until stop cs)

-- before the first x; and how many spaces stand at the start
unfoldable pub up_to : ℕ → List ℕ → ℕ
up_to x bytes = until (λ c. eqb c x) bytes

unfoldable pub spaces_of : List ℕ → ℕ
spaces_of bytes = until (λ c. not (eqb c space)) bytes

-- how many bytes stand before the spaces at the end
unfoldable pub without_spaces : List ℕ → ℕ
without_spaces [] = 0
without_spaces (c ∷ cs) = if eqb (without_spaces cs) 0 then (if eqb c space then 0 else 1) else suc (without_spaces cs)

-- the bytes before the first x, those after the spaces, and those before the spaces at the end
abbrev pub before : ℕ → List ℕ → List ℕ
before x bytes = take (up_to x bytes) bytes

abbrev pub trimmed : List ℕ → List ℕ
trimmed bytes = drop (spaces_of bytes) bytes

abbrev pub bare : List ℕ → List ℕ
bare bytes = take (without_spaces bytes) bytes

-- the same bytes
unfoldable pub same : List ℕ → List ℕ → Bool
same [] [] = true
same [] (y ∷ ys) = false
same (x ∷ xs) [] = false
same (x ∷ xs) (y ∷ ys) = eqb x y && same xs ys
