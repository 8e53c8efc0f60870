-- `jobs::space::store` meets its contract: the record fits, or not. Assumes nothing.
use Rattle.std.proofs.Common.{rules}
use Rattle.jobs.proofs.Sheets.{store_fits, store_past}
use Rattle.jobs.proofs.space.store.Goals as goal

pub returns-then-n-space : goal.returns-then-n-space
returns-then-n-space c = store_fits _ _ _ _ (search rules) (search rules) c.to_le_bytes.ensures

pub returns-else-n-space : goal.returns-else-n-space
returns-else-n-space c = search (store_past, rules)
