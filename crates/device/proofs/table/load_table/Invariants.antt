-- The numbers of the records so far stand in their places.
use Rattle.std.proofs.Common.{◌≡◌, ◌+◌, length, take}
use Rattle.rules.specs.Numbers.Capacity.{max_tasks}
use Rattle.device.specs.Table.{numbers_of}
use Rattle.device.proofs.table.load_table.Given as goal

abbrev pub invariant-loop-i : goal.invariant-loop-i
invariant-loop-i l = (length l.numbers ≡ max_tasks + 1) × (take l.i l.numbers ≡ take l.i (numbers_of l.tasks))
