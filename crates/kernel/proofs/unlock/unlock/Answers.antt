-- `kernel::unlock::unlock` meets its contract. The take is given back, and the kernel is called or not. Assumes nothing.
use Rattle.std.proofs.Common.{arith}
use Rattle.kernel.proofs.EventLaws.{unlock_says, unlock_calls, unlock_stays, unlock_idle, unlock_stands, unlock_kept, unlock_rooms}
use Rattle.kernel.proofs.unlock.unlock.Goals as goal

pub give_back-requires : goal.give_back-requires
give_back-requires c = (c.requires.0.runs, c.requires.0.known, c.requires.0.some)

pub overflow_add-state-2 : goal.overflow_add-state-2
overflow_add-state-2 c = omega (arith, c.eager_calls.ensures.1, (unlock_rooms c.args.plan.now _ _ _ _ c.requires.0 c.give_back.ensures c.eager_calls.ensures.0).0)

pub overflow_add-state-then-call : goal.overflow_add-state-then-call
overflow_add-state-then-call c = omega (arith, (unlock_rooms c.args.plan.now _ _ _ _ c.requires.0 c.give_back.ensures c.eager_calls.ensures.0).1)

pub enter-requires : goal.enter-requires
enter-requires c = unlock_idle c.args.plan.now _ _ _ _ c.requires.0 c.give_back.ensures c.eager_calls.ensures.0

pub leave-requires : goal.leave-requires
leave-requires c = unlock_stands c.args.plan.now _ _ _ _ c.requires.0 c.give_back.ensures c.eager_calls.ensures.0 _ _ _ c.enter.ensures c.requires.1

pub returns-then-call-clause-call : goal.returns-then-call-clause-call
returns-then-call-clause-call c = unlock_says c.args.plan.now _ _ _ _ c.requires.0 c.give_back.ensures c.eager_calls.ensures.0 _ c.calls_for-call.ensures

pub returns-then-call-clause-state_after : goal.returns-then-call-clause-state_after
returns-then-call-clause-state_after c =
    unlock_calls c.args.plan.now _ _ _ _ c.requires.0 c.give_back.ensures c.eager_calls.ensures.0 _ c.calls_for-call.ensures _ _ _ _ c.if-call.true c.enter.ensures
    c.requires.1.tasks c.leave.ensures.state_after

pub returns-else-call-clause-call : goal.returns-else-call-clause-call
returns-else-call-clause-call c = unlock_says c.args.plan.now _ _ _ _ c.requires.0 c.give_back.ensures c.eager_calls.ensures.0 _ c.calls_for-call.ensures

pub returns-else-call-clause-state_after : goal.returns-else-call-clause-state_after
returns-else-call-clause-state_after c =
    unlock_stays c.args.plan.now _ _ _ _ c.requires.0 c.give_back.ensures c.eager_calls.ensures.0 _ c.calls_for-call.ensures _ c.if-call.false

pub returns-else-call-clause-tree_after : goal.returns-else-call-clause-tree_after
returns-else-call-clause-tree_after c = unlock_kept c.args.plan.now _ _ _ _ c.requires.0 c.give_back.ensures c.eager_calls.ensures.0 _ _ c.requires.1
