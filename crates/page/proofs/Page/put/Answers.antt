-- `page::Page::put` meets its contract: within the bytes, and past them.
use Rattle.page.proofs.Typed.{put_within, put_past}
use Rattle.page.proofs.Page.put.Goals as goal

pub returns-then-self : goal.returns-then-self
returns-then-self g c = put_within c.args.self.now.out c.args.self.now.place c.args.item c.if-self.true

pub returns-else-self : goal.returns-else-self
returns-else-self g c = put_past c.args.self.now.out c.args.self.now.place c.args.item c.if-self.false
