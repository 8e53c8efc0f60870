-- `wording::record::put_lock` meets its contract. Its second byte is not 0.
use Rattle.std.proofs.Common.{arith, ◌≡◌}
use Rattle.rules.specs.Books.Load.{lock_second}
use Rattle.page.specs.Ascii.{ascii}
use Rattle.page.proofs.Choice.{when_other}
use Rattle.wording.specs.Records.{lock_line}
use Rattle.wording.proofs.record.put_lock.Goals as goal

pub returns-else-other-eq0 : goal.returns-else-other-eq0
unfolding ascii lock_line
returns-else-other-eq0 c = let n : lock_second c.args.w ≡ 0 → ⊥ = omega arith in rw (when_other _ _ _ _ n) (cc)
