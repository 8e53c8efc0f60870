-- Tests that must all hold, one after the other, as `grind` asks for them. Assumes nothing.
use mathlib.Core.Path.{◌≡◌, refl, sym}
use mathlib.Core.Bool.{Bool, true, false}
use mathlib.Core.List.{List, [], ◌∷◌}
use Rattle.rules.specs.Numbers.Choice.{all_true}
use Rattle.rules.proofs.Numbers.Choice.{if_true, if_false, tests, all_fails, all_next, all_last}

pub all_on : (t : Bool) (ts : List Bool) → t ≡ true → all_true (t ∷ ts) ≡ all_true ts
all_on t ts e = sym (all_next t (all_true ts) ts e refl)

pub all_off : (t : Bool) (ts : List Bool) → t ≡ false → all_true (t ∷ ts) ≡ false
all_off t ts e = sym (all_fails t ts e)

pub all_one : (t : Bool) → all_true (t ∷ []) ≡ t
all_one t = sym (all_last t t refl)

pub ruleset turns = (tests, all_on, all_off, all_one)
