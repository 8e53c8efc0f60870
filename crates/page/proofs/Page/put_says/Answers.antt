-- `page::Page::put_says` meets its contract: what is laid is typed.
use Rattle.std.proofs.Common.{refl, sym}
use Rattle.page.proofs.Page.put_says.Goals as goal

pub returns : goal.returns
returns c = sym (c.lay_says-self.ensures.typed _ refl)
