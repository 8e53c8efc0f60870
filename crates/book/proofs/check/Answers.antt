-- `check` meets its contract. The contents are refused, or the bodies decide.
use Rattle.rules.proofs.Numbers.Checks.{handed_on}
use Rattle.book.proofs.Order.{laid_out, refused_contents, passed_contents}
use Rattle.book.proofs.check.Goals as goal

pub returns-in_err-first_fault : goal.returns-in_err-first_fault
returns-in_err-first_fault c = refused_contents _ _ _ _ (handed_on _ _ c.from_residual.ensures.1) c.in_err-first_fault.ensures

pub check-requires : goal.check-requires
check-requires c = laid_out _ c.in_ok-first_fault.ensures

pub returns : goal.returns
returns c = passed_contents _ _ _ c.in_ok-first_fault.ensures c.check.ensures
