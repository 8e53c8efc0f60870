-- `office::explain::of_book` meets its contract. The others have numbers past 9, and not 24. Assumes nothing.
use Rattle.std.proofs.Common.{rules, sym}
use Rattle.office.proofs.Explaining.{of_event}
use Rattle.office.proofs.explain.of_book.Goals as goal

pub returns-in_default : goal.returns-in_default
returns-in_default c = sym (of_event _ (search rules) (search rules) (search rules) (search rules) (search rules) (search rules) (search rules) (search rules) (search rules) (search rules))
