use Rattle.std.proofs.Common.{◌≡◌, length, drop, map}
use Rattle.texts.specs.Line.{line_of}
use Rattle.texts.specs.Lines.{first_wrong}
use Rattle.texts.proofs.Split.{parts}
use Rattle.texts.proofs.lines.first_wrong.Given as goal

abbrev pub invariant-loop-i : goal.invariant-loop-i
invariant-loop-i l = first_wrong (length l.yielded) (map line_of (drop (length l.yielded) (parts l.text))) ≡ first_wrong 0 (map line_of (parts l.text))
