-- `plan::ceilings::shared_locks` meets its contract. Each turn takes one task in.
use Rattle.std.proofs.Common.{arith, ℕ, length-take, get_or-take}
use Rattle.plan.proofs.Users.{shared_start, shared_next, shared_ends, shared_locks_by}
use Rattle.plan.proofs.ceilings.shared_locks.Goals as goal

pub loop-set-init : goal.loop-set-init
loop-set-init c = shared_start c.args.p.now

pub loop-set-preserved : goal.loop-set-preserved
loop-set-preserved c = shared_next c.args.p.now _ _ _ _ c.loop-set.invariant (get_or-take c.args.p.now.tasks c.args.p.now.uses c.loop-set.set-index 0 (omega (arith, length-take {A = ℕ})))

pub returns : goal.returns
returns c =
    let e = shared_ends c.args.p.now _ _ _ c.loop-set.invariant (omega (arith, length-take {A = ℕ})) in
    record { walked = e; shares = λ l. rw e (shared_locks_by c.args.p.now l) }
