-- RULES 19.2, 19.4: a number in decimal digits, or what is wrong with the word. Assumes nothing.
use Rattle.std.specs.Prelude.{Bool, true, false, ◌&&◌, List, [], ◌∷◌, ℕ, ◌+◌, ◌*◌, ◌-◌, min, eqb, leb, ltb, length, Result, Ok, Err, if◌then◌else◌}
use Rattle.texts.specs.declared.number.Mistake.{Mistake}

-- a byte from `0` to `9`
unfoldable pub is_digit : ℕ → Bool
is_digit c = if ltb c 48 then false else leb c 57

unfoldable pub digital : List ℕ → Bool
digital [] = true
digital (c ∷ cs) = is_digit c && digital cs

-- more than any number of a record; all numbers from it on are alike
abbrev pub too_large : ℕ
too_large = 65_536

-- the number v with one digit more, and with all digits of a word
unfoldable pub grown : ℕ → ℕ → ℕ
grown v c = if ltb c 48 then v else min (v * 10 + (c - 48)) too_large

unfoldable pub value_of : ℕ → List ℕ → ℕ
value_of v [] = v
value_of v (c ∷ cs) = value_of (grown v c) cs

-- the number that a word is, where it may be at most this
unfoldable pub number_of : ℕ → List ℕ → Result ℕ Mistake
number_of most word =
    if eqb (length word) 0 then Err Mistake.Missing
    else if digital word then (if ltb most (value_of 0 word) then Err Mistake.TooLarge else Ok (value_of 0 word))
    else Err Mistake.NoNumber
