-- `office::explain::put_call_words` meets its contract. No call, or those of the accepted events. Assumes nothing.
use Rattle.std.proofs.Common.{rules}
use Rattle.page.specs.Ascii.{ascii}
use Rattle.page.proofs.Choice.{choosing}
use Rattle.office.specs.Explain.{call_words}
use Rattle.office.proofs.explain.put_call_words.Goals as goal

pub returns-then-lazy-eq0 : goal.returns-then-lazy-eq0
unfolding ascii call_words
returns-then-lazy-eq0 c = search (choosing, rules)
