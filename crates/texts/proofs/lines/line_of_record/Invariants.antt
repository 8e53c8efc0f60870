use Rattle.std.proofs.Common.{◌≡◌, length, drop, map}
use Rattle.texts.specs.Line.{line_of}
use Rattle.texts.specs.Lines.{line_of_record}
use Rattle.texts.proofs.Split.{parts}
use Rattle.texts.proofs.lines.line_of_record.Given as goal

abbrev pub invariant-loop-i : goal.invariant-loop-i
invariant-loop-i l =
    line_of_record l.part l.left (length l.yielded) (map line_of (drop (length l.yielded) (parts l.text))) ≡ line_of_record l.part l.k 0 (map line_of (parts l.text))
