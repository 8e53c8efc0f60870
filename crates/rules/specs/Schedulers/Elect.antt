-- RULES 9.10, 11.2: of tasks with a key each, the one that runs: the greatest key, ties to the earlier release; nobody where every key is 0.
-- Assumes nothing.
use Rattle.std.specs.Prelude.{ℕ, zero, suc, eqb, ltb, if◌then◌else◌}
use Rattle.rules.specs.Numbers.Capacity.{nobody}
use Rattle.rules.specs.Numbers.Place.{greatest}

-- of two tasks the one released earlier; anybody goes before nobody
unfoldable pub earlier : (ℕ → ℕ) → ℕ → ℕ → ℕ
earlier released a b = if eqb a nobody then b else if ltb (released b) (released a) then b else a

-- of the first n tasks those of key g, and of these the one released earliest
unfoldable pub earliest : (ℕ → ℕ) → (ℕ → ℕ) → ℕ → ℕ → ℕ
earliest released key g zero = nobody
earliest released key g (suc k) = if eqb (key k) g then earlier released (earliest released key g k) k else earliest released key g k

-- of the first n tasks the one of greatest key, ties to the earlier release; nobody where no key is above 0
unfoldable pub elected : (ℕ → ℕ) → (ℕ → ℕ) → ℕ → ℕ
elected released key n = if eqb (greatest key n) 0 then nobody else earliest released key (greatest key n) n
