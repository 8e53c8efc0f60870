-- The longest limit. A plan's tables end before its counts do where a plan is unsound: past them no task is a user, and a limit is 0. Assumes nothing.
use mathlib.Core.Path.{◌≡◌, refl, sym, ◌∙◌}
use mathlib.Core.Bool.{Bool, true, false}
use Prim.Native.Nat.{ℕ, ◌+◌, ◌≤◌, min, max}
use native.Mathlib.Numerals.{add-one}
use native.Mathlib.Omega.{arith}
use lib.ListN.{length}
use Rattle.rules.specs.Numbers.Place.{at, any, greatest}
use Rattle.rules.specs.Books.Plan.{declares}
use Rattle.rules.specs.Demands.Bound.{lower_at, lower_user, may_block, limit_if, longest_limit}
use Rattle.rules.specs.declared.plan.Plan.{Plan}
use Rattle.rules.proofs.Numbers.Choice.{either, if_true, if_false}
use Rattle.rules.proofs.Numbers.Mask.{bit_none}
use Rattle.rules.proofs.Numbers.Place.{any_clamped, greatest_clamped, none_past}

module _ (p : Plan) (b : ℕ) where
  -- no task past the sets of locks is a user
  pub user_here : (l : ℕ) (r : Bool) → r ≡ any (lower_at p b l) (min p.tasks (length p.uses)) → r ≡ lower_user p b l
  unfolding lower_user lower_at declares
  user_here l r e = e ∙ any_clamped (lower_at p b l) p.tasks (length p.uses)
      (λ x h. rw (← none_past p.uses (length p.uses) x refl h, bit_none l))

  -- no lock past the limits has one
  limit_past : (l : ℕ) → length p.limit ≤ l → limit_if p b l ≡ 0
  unfolding limit_if
  limit_past l h = either (λ v. v ≡ 0) (may_block p b l) (at p.limit l) 0 (sym (none_past p.limit (length p.limit) l refl h)) refl

  pub longest_here : (m r : ℕ) → r ≡ greatest (limit_if p b) m → m ≡ min p.locks (length p.limit) → r ≡ longest_limit p b
  unfolding longest_limit
  longest_here m r e h = e ∙ rw h (greatest_clamped (limit_if p b) p.locks (length p.limit) limit_past)

  pub limit_start : 0 ≡ greatest (limit_if p b) 0
  unfolding greatest
  limit_start = refl

  -- one lock more, which may hold up the task or not
  pub limit_blocks : (l top d : ℕ) → top ≡ greatest (limit_if p b) l → may_block p b l ≡ true → d ≡ max top (at p.limit l) → d ≡ greatest (limit_if p b) (l + 1)
  unfolding greatest limit_if
  limit_blocks l top d e h q = rw (add-one l, if_true (may_block p b l) (at p.limit l) 0 h, ← e) q

  pub limit_passes : (l top d : ℕ) → top ≡ greatest (limit_if p b) l → may_block p b l ≡ false → d ≡ top → d ≡ greatest (limit_if p b) (l + 1)
  unfolding greatest limit_if
  limit_passes l top d e h q = rw (add-one l, if_false (may_block p b l) (at p.limit l) 0 h) (omega arith)
