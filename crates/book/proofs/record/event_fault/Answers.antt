-- `record::event_fault` meets its contract. All tests at once say what the rule says by cases.
use Rattle.book.proofs.Records.{all_asked}
use Rattle.book.proofs.record.event_fault.Goals as goal

pub returns : goal.returns
returns c = search all_asked
