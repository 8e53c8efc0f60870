-- `wording::reason::put_reason` meets its contract. No lock is open, or another is the newest.
use Rattle.std.proofs.Common.{rules}
use Rattle.page.specs.Ascii.{ascii}
use Rattle.page.proofs.Choice.{choosing}
use Rattle.wording.specs.Reasons.{reason_of, newest_reason}
use Rattle.wording.proofs.reason.put_reason.Goals as goal

pub returns-in-NotNewest : goal.returns-in-NotNewest
unfolding ascii reason_of newest_reason
returns-in-NotNewest c = search (choosing, rules)

pub returns-in-NotNewest-2 : goal.returns-in-NotNewest-2
unfolding ascii reason_of newest_reason
returns-in-NotNewest-2 c = search (choosing, rules)
