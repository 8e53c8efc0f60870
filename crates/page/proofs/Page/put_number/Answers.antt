-- `page::Page::put_number` meets its contract: what is laid is typed.
use Rattle.std.proofs.Common.{refl, sym}
use Rattle.page.proofs.Page.put_number.Goals as goal

pub returns : goal.returns
returns c = sym (c.lay_number-self.ensures.typed _ refl)
