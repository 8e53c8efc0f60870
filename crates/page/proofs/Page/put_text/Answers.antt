-- `page::Page::put_text` meets its contract: what is laid is typed.
use Rattle.std.proofs.Common.{refl, sym}
use Rattle.page.proofs.Page.put_text.Goals as goal

pub returns : goal.returns
returns c = sym (c.lay_text-self.ensures.typed _ refl)
