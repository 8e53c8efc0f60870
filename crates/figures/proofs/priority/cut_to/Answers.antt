-- `figures::priority::cut_to` meets its contract. A word above the maximum becomes that, so the lesser of both is left.
use Rattle.std.proofs.Common.{◌≡◌, ◌∙◌, sym, ℕ, ltb, min, rules, arith}
use Rattle.rules.specs.Schedulers.Lazy.{cut_to}
use Rattle.rules.proofs.Numbers.Choice.{if_true, if_false, lt_or_le}
use mathlib.Core.Logic.{⊎_elim}
use borrow.Author.Tests.{lt-ltb, le-ltb}
use Rattle.figures.proofs.priority.cut_to.Goals as goal

lesser : (maximum user : ℕ) → min maximum user ≡ cut_to maximum user
unfolding cut_to
lesser maximum user = ⊎_elim
    (λ h. let e : min maximum user ≡ maximum = omega arith in e ∙ sym (if_true (ltb maximum user) maximum user (lt-ltb maximum user h)))
    (λ h. let e : min maximum user ≡ user = omega arith in e ∙ sym (if_false (ltb maximum user) maximum user (le-ltb maximum user h)))
    (lt_or_le maximum user)

pub returns : goal.returns
returns c =
    let least : c.min.result.0 ≡ min c.args.maximum.0 c.args.user.0 = search rules in
    least ∙ lesser c.args.maximum.0 c.args.user.0
