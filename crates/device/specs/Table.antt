-- RULES 6.3: the numbers of the task records of a lent table. Assumes nothing.
use Rattle.std.specs.Prelude.{List, map, ℕ, ◌+◌, ◌*◌}
use Rattle.device.specs.declared.table.TaskRecord.{TaskRecord}

-- the number of a record's two bytes, the low one first
abbrev pub word_of : TaskRecord → ℕ
word_of t = t.base + t.maximum * 256

abbrev pub numbers_of : List TaskRecord → List ℕ
numbers_of ts = map word_of ts
