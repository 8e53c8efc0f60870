-- `page::lay` meets its contract: within the bytes, and past them.
use Rattle.page.proofs.Typed.{laid_within, laid_past}
use Rattle.page.proofs.lay.Goals as goal

pub returns-then-place-out : goal.returns-then-place-out
returns-then-place-out c = laid_within _ _ _ c.if-place-out.true

pub returns-else-place-out : goal.returns-else-place-out
returns-else-place-out c = laid_past _ _ _ c.if-place-out.false
