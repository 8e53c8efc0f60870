-- `plan::maxima::first_above` meets its contract. Each use is asked, in turn, up to one at fault.
use Rattle.std.proofs.Common.{rules, ℕ, ◌<◌, length}
use Rattle.std.proofs.iter.Serving.{serving}
use Rattle.std.proofs.lemmas.Grind.{get_or_default_zero}
use Rattle.std.proofs.iter.runs.Made.{chains}
use Rattle.rules.specs.Numbers.Place.{at}
use Rattle.rules.specs.Books.Load.{use_above, use_task, use_lock}
use Rattle.plan.specs.Placed.{Placed}
use Rattle.plan.proofs.First.{place_said}
use Rattle.plan.proofs.maxima.first_above.Goals as goal

pub position-requires-clause-callable : goal.position-requires-clause-callable
unfolding Placed
position-requires-clause-callable c =
    let t : (i : ℕ) → i < length c.args.uses.now → use_task (at c.args.uses.now i) < length c.args.tasks.now = λ i h. (c.requires i h).0 in
    let l : (i : ℕ) → i < length c.args.uses.now → use_lock (at c.args.uses.now i) < length c.args.locks.now = λ i h. (c.requires i h).1 in
    grind (serving, get_or_default_zero, t, l)

pub returns : goal.returns
unfolding use_above
returns c = place_said _ _ _ (λ i e. search (rules, chains)) (λ i e. search (rules, chains)) (λ i e j h. search (rules, chains)) (λ e j h. search (rules, chains))
