-- `office::space::text_room` meets its contract. As many zeros as it says, by the law and not by counting them. Assumes nothing.
use mathlib.Core.Path.{sym}
use Prim.Native.Nat.{ℕ}
use lib.ListN.{length-replicate}
use Rattle.office.proofs.space.text_room.Statement.{statement}
use Rattle.office.proofs.space.text_room.Tie as tie

pub text_room_spec : {M : Type 1} → statement M
text_room_spec = tie.close (tie.spec (λ c. sym (length-replicate {A = ℕ} 1048577 0)))
