-- The parts of a book by their places. Assumes nothing.
use mathlib.Core.Path.{◌≡◌, refl, sym, ◌∙◌, ap}
use mathlib.Core.Bool.{Bool}
use mathlib.Core.List.{List, [], ◌∷◌}
use Prim.Native.Nat.{ℕ, zero, suc, ◌≤◌, ◌<◌}
use native.Mathlib.Omega.{arith}
use lib.ListN.{length, get_or, take, length-take}
use lib.Seq.{get_or-take}
use Rattle.std.proofs.Common.{Some, None, slice_get}
use Rattle.std.specs.List.{position}
use Rattle.rules.specs.Numbers.Place.{first_from}
use Rattle.book.specs.declared.entry.Part.{Part}
use Rattle.book.specs.declared.entry.Part.TheVariants.{Tasks, Locks, Uses, Events}
use Rattle.book.specs.Part.{index_of}
use Rattle.book.proofs.Firsts.{first_of, position_first, first_of_same, first_there, first_absent}

abbrev pub parts : List Part
parts = Tasks ∷ Locks ∷ Uses ∷ Events ∷ []

pub index_small : (part : Part) → index_of part < 4
index_small Tasks = omega arith
index_small Locks = omega arith
index_small Uses = omega arith
index_small Events = omega arith

pub index_at : (k : ℕ) (d : Part) → k < 4 → index_of (get_or parts k d) ≡ k
index_at zero d h = refl
index_at (suc zero) d h = refl
index_at (suc (suc zero)) d h = refl
index_at (suc (suc (suc zero))) d h = refl
index_at (suc (suc (suc (suc k)))) d h = absurd (omega arith)

-- of the first n parts
pub index_taken : (n k : ℕ) (d : Part) → n ≤ 4 → k < length (take n parts) → index_of (get_or (take n parts) k d) ≡ k
index_taken n k d h l =
    let q : k < n = omega (arith, length-take n parts) in
    ap index_of (get_or-take n parts k d q) ∙ index_at k d (omega arith)

-- the first part that passes a test of its place
pub first_part : (f : ℕ → Bool) → position (λ part. f (index_of part)) parts ≡ first_of f 4
first_part f = position_first (λ part. f (index_of part)) Tasks parts ∙ first_of_same _ f 4 (λ k h. ap f (index_at k Tasks h))

module _ (f : ℕ → Bool) where
  pub part_found : (k : ℕ) → position (λ part. f (index_of part)) parts ≡ Some k → (k < 4) × (k ≡ first_from f 0 4)
  part_found k e = first_there f 4 k (sym (first_part f) ∙ e)

  pub part_absent : position (λ part. f (index_of part)) parts ≡ None → 4 ≤ first_from f 0 4
  part_absent e = first_absent f 4 (sym (first_part f) ∙ e)

-- the part at a place
pub part_at : (k : ℕ) (part : Part) → slice_get parts k ≡ Some part → (k < 4) × (index_of part ≡ k)
part_at zero part e = let q : part ≡ Tasks = cc in (omega arith, rw q refl)
part_at (suc zero) part e = let q : part ≡ Locks = cc in (omega arith, rw q refl)
part_at (suc (suc zero)) part e = let q : part ≡ Uses = cc in (omega arith, rw q refl)
part_at (suc (suc (suc zero))) part e = let q : part ≡ Events = cc in (omega arith, rw q refl)
part_at (suc (suc (suc (suc k)))) part e = cc

pub part_past : (k : ℕ) → slice_get parts k ≡ None → 3 < k
part_past zero e = cc
part_past (suc zero) e = cc
part_past (suc (suc zero)) e = cc
part_past (suc (suc (suc zero))) e = cc
part_past (suc (suc (suc (suc k)))) e = omega arith
