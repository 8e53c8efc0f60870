-- RULES 7.9: the two lazy protocols, by their numbers, and the one rule in which they differ. Assumes nothing.
use Rattle.std.specs.Prelude.{ℕ, eqb, if◌then◌else◌}
use Rattle.rules.specs.declared.protocol.Protocol.{Protocol}
use Rattle.rules.specs.declared.protocol.Protocol.TheVariants.{Second, First}

unfoldable pub protocol_number : Protocol → ℕ
protocol_number Second = 2
protocol_number First = 1

-- the protocol that a number names: 1 the first, and every other number the second
unfoldable pub protocol_named : ℕ → Protocol
protocol_named number = if eqb number 1 then First else Second

-- what an entry to the kernel leaves in the second word, after any switch, where the task that runs then has this user word and `best` is the greatest
-- priority that is kept: the second protocol's next word, or the first protocol's kernel word
unfoldable pub second_word : Protocol → (user best : ℕ) → ℕ
second_word Second user best = best
second_word First user best = user
