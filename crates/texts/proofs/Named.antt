-- The figures of a kind. Assumes nothing.
use Rattle.std.specs.Prelude.{if◌then◌else◌}
use mathlib.Core.Path.{◌≡◌, ap}
use Prim.Native.Nat.{ℕ, ◌≤◌}
use native.Mathlib.Omega.{arith}
use mathlib.Core.Bool.{Bool, true, false}
use lib.Dec.{eqb}
use Rattle.texts.specs.Kind.{most_of}
use Rattle.texts.specs.declared.kind.Kind.{Kind}

-- of a lock the first number is its ceiling, the second its limit
pub most_lock : (kind : Kind) (w : ℕ) → kind ≡ Kind.Lock → most_of kind w ≡ (if eqb w 0 then 255 else 65535)
unfolding most_of
most_lock kind w e = ap (λ k. most_of k w) e

-- no number of a record may be more
pub most_within : (kind : Kind) (w : ℕ) → most_of kind w ≤ 65535
unfolding most_of
most_within Kind.Task w = omega arith
most_within Kind.Lock w = go (eqb w 0)
  where
    go : (t : Bool) → (if t then 255 else 65535) ≤ 65535
    go true = omega arith
    go false = omega arith
most_within Kind.Use w = omega arith
most_within Kind.Release w = omega arith
most_within Kind.Acquire w = omega arith
most_within Kind.Unlock w = omega arith
most_within Kind.Work w = omega arith
most_within Kind.Finish w = omega arith
most_within Kind.Tick w = omega arith
most_within Kind.Job w = omega arith
