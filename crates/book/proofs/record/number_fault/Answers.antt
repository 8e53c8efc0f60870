-- `record::number_fault` meets its contract. It asks of the number's three parts.
use Rattle.rules.specs.Books.Event.{number_fault}
use Rattle.book.proofs.record.number_fault.Goals as goal

pub returns : goal.returns
unfolding number_fault
returns c = cc
