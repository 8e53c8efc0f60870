-- `page::lay_number` meets its contract. Its last digit stands after those of a tenth of it. Assumes nothing.
use Rattle.page.proofs.Said.{laid_digit, laid_digits}
use Rattle.page.proofs.+lay_number.Goals as goal

pub returns-then-n-lt10 : goal.returns-then-n-lt10
returns-then-n-lt10 n c = laid_digit _ _ _ _ _ _ c.if-n-lt10.true c.last_digit-last.ensures c.lay.ensures

pub returns : goal.returns
returns n c = laid_digits _ _ _ _ _ _ _ _ c.if-n-lt10.false c.last_digit-last.ensures c.lay_number-place.ensures c.lay-2.ensures
