-- RULES 13.4: the bound on a task's delay, by the plan alone. Assumes nothing.
use Rattle.std.specs.Prelude.{Bool, ◌&&◌, ℕ, leb, ltb, if◌then◌else◌}
use Rattle.rules.specs.Numbers.Place.{at, any, greatest}
use Rattle.rules.specs.Books.Plan.{declares}
use Rattle.rules.specs.declared.plan.Plan.{Plan}

-- task x may take lock l and has a base below b; some task does
unfoldable pub lower_at : Plan → ℕ → ℕ → ℕ → Bool
lower_at p b l x = declares p x l && ltb (at p.base x) b

unfoldable pub lower_user : Plan → ℕ → ℕ → Bool
lower_user p b l = any (lower_at p b l) p.tasks

-- lock l may hold up a task of base b
unfoldable pub may_block : Plan → ℕ → ℕ → Bool
may_block p b l = leb b (at p.ceiling l) && lower_user p b l

-- the limit of such a lock, and the greatest of these; 0 without one
unfoldable pub limit_if : Plan → ℕ → ℕ → ℕ
limit_if p b l = if may_block p b l then at p.limit l else 0

unfoldable pub longest_limit : Plan → ℕ → ℕ
longest_limit p b = greatest (limit_if p b) p.locks

abbrev pub bound_of : Plan → ℕ → ℕ
bound_of p t = longest_limit p (at p.base t)
