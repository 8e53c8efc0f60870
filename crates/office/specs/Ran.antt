-- RULES 15.7, 19.7: the replay of a book, with row space for every book. Assumes nothing.
use Rattle.std.specs.Prelude.{List, ℕ, ◌*◌, replicate}
use Rattle.rules.specs.Numbers.Capacity.{max_events}
use Rattle.rules.specs.Replays.Replay.{replay_of}
use Rattle.rules.specs.Replays.Run.{Ran}
use Rattle.rules.specs.declared.protocol.Protocol.{Protocol}

-- four row bytes for each event that a book may have, so 9 is never given
abbrev pub row_space : ℕ
row_space = max_events * 4

abbrev pub ran_of : Protocol → List ℕ → Ran
ran_of pr b = replay_of pr b (replicate row_space 0)
