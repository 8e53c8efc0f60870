use Rattle.std.proofs.Common.{◌≤◌, ◌-◌, length}
use Rattle.jobs.proofs.Ways.{Counts}
use Rattle.jobs.proofs.text.units.Given as goal

abbrev pub invariant-loop-d : goal.invariant-loop-d
invariant-loop-d l = (l.from ≤ l.place) × (l.place ≤ length l.text) × (1 ≤ l.value) × (l.value ≤ 65535) × Counts l.text l.from l.place l.value

abbrev pub decreases-loop-d : goal.decreases-loop-d
decreases-loop-d l = length l.text - l.place
