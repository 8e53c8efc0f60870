-- The oldest open lock of a ceiling: the section by which a task of lower base holds up another. Assumes nothing.
use Rattle.std.specs.Prelude.{if◌then◌else◌}
use mathlib.Core.Path.{◌≡◌, sym, ◌∙◌, ap, ap₂, subst}
use mathlib.Core.Bool.{true}
use Prim.Native.Nat.{ℕ, zero, suc, ◌≤◌, ◌<◌}
use native.Mathlib.Omega.{arith}
use lib.Dec.{leb}
use borrow.Author.Tests.{leb-true, leb-false, le-leb}
use Rattle.rules.specs.Numbers.Place.{at}
use Rattle.rules.specs.Numbers.Row.{newest, under, pushed, has, priority}
use Rattle.rules.specs.Schedulers.Figures.{Figures, holds, priority_of}
use Rattle.rules.specs.declared.plan.Plan.{Plan}
use Rattle.rules.proofs.Numbers.Choice.{if_true, if_false, by_test}
use Rattle.rules.proofs.Numbers.Row.{under_pushed, has_newest, has_under}
use Rattle.rules.proofs.Schedulers.FiguresKept.{Same}

module _ (ceiling : ℕ → ℕ) (base : ℕ) where
  -- of a row of k takes the lock of the oldest one of ceiling q or more
  unfoldable pub oldest : ℕ → ℕ → ℕ → ℕ
  oldest q row zero = 0
  oldest q row (suc k) = if leb q (priority ceiling base (under row) k) then oldest q (under row) k else newest row

  -- the row under the newest take decides it, where that row is urgent enough
  pub oldest_under : (q row k : ℕ) → q ≤ priority ceiling base (under row) k → oldest q row (suc k) ≡ oldest q (under row) k
  unfolding oldest
  oldest_under q row k h = if_true (leb q (priority ceiling base (under row) k)) (oldest q (under row) k) (newest row)
      (le-leb q (priority ceiling base (under row) k) h)

  pub oldest_pushed : (q row k x : ℕ) → x < 256 → q ≤ priority ceiling base row k → oldest q (pushed row x) (suc k) ≡ oldest q row k
  oldest_pushed q row k x h b =
      oldest_under q (pushed row x) k (subst (λ r. q ≤ priority ceiling base r k) (sym (under_pushed row x h)) b)
      ∙ ap (λ r. oldest q r k) (under_pushed row x h)

  -- it is open, and its ceiling is q or more
  pub oldest_has : (q row k : ℕ) → base < q → q ≤ priority ceiling base row k → (has row k (oldest q row k) ≡ true) × (q ≤ ceiling (oldest q row k))
  unfolding oldest priority
  oldest_has q row zero l h = absurd (omega arith)
  oldest_has q row (suc k) l h = by_test (leb q (priority ceiling base (under row) k))
      (λ e. let (a, b) = oldest_has q (under row) k l (leb-true q (priority ceiling base (under row) k) e) in
      rw (if_true (leb q (priority ceiling base (under row) k)) (oldest q (under row) k) (newest row) e) (has_under row k (oldest q (under row) k) a, b))
      (λ e. rw (if_false (leb q (priority ceiling base (under row) k)) (oldest q (under row) k) (newest row) e)
      (has_newest row k, omega (arith, leb-false q (priority ceiling base (under row) k) e)))

-- the lock of task x's oldest take of ceiling q or more
unfoldable pub oldest_of : Plan → Figures → ℕ → ℕ → ℕ
oldest_of p f x q = oldest (at p.ceiling) (at p.base x) q (at f.takes x) (at f.depth x)

pub oldest_open : (p : Plan) (f : Figures) (x q : ℕ) → at p.base x < q → q ≤ priority_of p f x
    → (holds f x (oldest_of p f x q) ≡ true) × (q ≤ at p.ceiling (oldest_of p f x q))
unfolding oldest_of holds priority_of
oldest_open p f x q l h = oldest_has (at p.ceiling) (at p.base x) q (at f.takes x) (at f.depth x) l h

pub same_oldest : (p : Plan) {f g : Figures} {x : ℕ} → Same f g x → (q : ℕ) → oldest_of p g x q ≡ oldest_of p f x q
unfolding oldest_of
same_oldest p {f} {g} {x} s q = ap₂ (oldest (at p.ceiling) (at p.base x) q) s.takes s.depth
