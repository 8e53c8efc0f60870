use Rattle.std.proofs.Common.{◌≤◌, ◌+◌, ◌-◌, ◌*◌, length}
use Rattle.jobs.specs.Sheet.{sheet}
use Rattle.jobs.specs.Said.{Came}
use Rattle.jobs.proofs.read.+body_item.Given as goal

-- An item calls a body at one level less, and a body its items at its own.
abbrev pub decreases-body : goal.decreases-body
decreases-body l = l.k * 2 + 1

abbrev pub decreases-item : goal.decreases-item
decreases-item l = l.k * 2

-- the loop over a body's items has come to one, and falls on the remaining text
abbrev pub invariant-body-loop-next : goal.invariant-body-loop-next
invariant-body-loop-next l = (l.fn.from ≤ l.i) × (l.i ≤ length l.text) × (l.m ≤ l.i) × Came l.text l.k l.fn.from (sheet l.fn.space l.fn.n) l.i (sheet l.space l.m)

abbrev pub decreases-body-loop-next : goal.decreases-body-loop-next
decreases-body-loop-next l = length l.text - l.i
