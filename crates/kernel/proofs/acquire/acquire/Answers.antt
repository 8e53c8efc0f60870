-- `kernel::acquire::acquire` meets its contract. The rows have room, and the word is saved and raised. Assumes nothing.
use Rattle.std.proofs.Common.{◌≡◌, max, rules, arith}
use Rattle.kernel.proofs.EventLaws.{acquire_acts}
use Rattle.kernel.proofs.acquire.acquire.Goals as goal

pub bounds-state-x : goal.bounds-state-x
bounds-state-x c = c.requires.runs

pub bounds-state-x-2 : goal.bounds-state-x-2
bounds-state-x-2 c = c.requires.runs

pub bounds-state-x-3 : goal.bounds-state-x-3
bounds-state-x-3 c = c.requires.runs

pub bounds-state-x-4 : goal.bounds-state-x-4
bounds-state-x-4 c = c.requires.runs

pub bounds-state-x-5 : goal.bounds-state-x-5
bounds-state-x-5 c = c.requires.runs

pub bounds-state-x-6 : goal.bounds-state-x-6
bounds-state-x-6 c = c.requires.runs

pub bounds-state-y : goal.bounds-state-y
bounds-state-y c = c.requires.known

pub bounds-plan-y : goal.bounds-plan-y
bounds-plan-y c = c.requires.known

pub overflow_add-state-2 : goal.overflow_add-state-2
overflow_add-state-2 c = omega (arith, c.requires.runs)

pub overflow_add-state-4 : goal.overflow_add-state-4
overflow_add-state-4 c = omega (arith, c.requires.room, c.requires.eager)

pub returns : goal.returns
returns c pr =
    let u : c.max-state.result.0 ≡ max c.args.state.now.head.user.0 c.user_of.result.0 = search rules in
    acquire_acts _ _ pr _ _ _ _ _ _ c.requires c.user_of.ensures c.push_on.ensures.0 c.push_word.ensures.0 u c.eager_calls.ensures.0
