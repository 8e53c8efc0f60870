-- What is on the page and what the lines that are left say make the records of the whole text.
use Rattle.std.proofs.Common.{◌≡◌, length, drop}
use Rattle.page.specs.Page.{typed}
use Rattle.texts.specs.Lines.{records_of}
use Rattle.texts.proofs.Split.{parts}
use Rattle.texts.proofs.lines.collect.Given as goal

abbrev pub invariant-loop-bytes : goal.invariant-loop-bytes
invariant-loop-bytes l =
    typed l.page (records_of l.part (drop (length l.yielded) (parts l.text))) ≡ typed l.fn.page (records_of l.part (parts l.text))
