-- `kernel::refusals::refusal` meets its contract. The state is exhausted, or the event's own tests say. Assumes nothing.
use Rattle.kernel.proofs.TestLaws.{exhausted, own_tests, no_tests}
use Rattle.kernel.proofs.refusals.refusal.Goals as goal

pub returns-then-state-ge-MAX_ACCEPTED : goal.returns-then-state-ge-MAX_ACCEPTED
returns-then-state-ge-MAX_ACCEPTED c = exhausted c.args.plan.now c.args.state.now _ c.if-state-ge-MAX_ACCEPTED.true

pub returns-in-Release : goal.returns-in-Release
returns-in-Release c = own_tests c.args.plan.now c.args.state.now _ _ _ c.if-state-ge-MAX_ACCEPTED.false c.release_refusal.ensures c.in-Release.is

pub returns-in-Acquire : goal.returns-in-Acquire
returns-in-Acquire c = own_tests c.args.plan.now c.args.state.now _ _ _ c.if-state-ge-MAX_ACCEPTED.false c.acquire_refusal.ensures c.in-Acquire.is

pub returns-in-Unlock : goal.returns-in-Unlock
returns-in-Unlock c = own_tests c.args.plan.now c.args.state.now _ _ _ c.if-state-ge-MAX_ACCEPTED.false c.unlock_refusal.ensures c.in-Unlock.is

pub returns-in-Work : goal.returns-in-Work
returns-in-Work c = own_tests c.args.plan.now c.args.state.now _ _ _ c.if-state-ge-MAX_ACCEPTED.false c.work_refusal.ensures c.in-Work.is

pub returns-in-Finish : goal.returns-in-Finish
returns-in-Finish c = own_tests c.args.plan.now c.args.state.now _ _ _ c.if-state-ge-MAX_ACCEPTED.false c.finish_refusal.ensures c.in-Finish.is

pub returns-in-Tick : goal.returns-in-Tick
returns-in-Tick c = no_tests c.args.plan.now c.args.state.now _ c.if-state-ge-MAX_ACCEPTED.false c.in-Tick.is
