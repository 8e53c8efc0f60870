-- `kernel::act::accept` meets its contract. Each arm is its event's. Assumes nothing.
use Rattle.std.proofs.Common.{◌∙◌, sym, ap}
use Rattle.rules.specs.Replays.Step.{after_of}
use Rattle.rules.specs.Schedulers.Lazy.{lazy_call}
use Rattle.kernel.proofs.Ready.{accepts_as, tick_ready, release_ready, acquire_ready, unlock_ready, work_ready, finish_ready}
use Rattle.kernel.proofs.EventLaws.{acquire_stands, work_stands, ticked_stands, acquire_same, unlock_same, work_same}
use Rattle.kernel.proofs.act.accept.Goals as goal

-- ---- a release

pub release-requires : goal.release-requires
release-requires c = (release_ready (accepts_as c.in-Release.is c.requires.0), c.requires.1)

pub returns-in-Release-clause-call : goal.returns-in-Release-clause-call
unfolding lazy_call
returns-in-Release-clause-call c = rw c.in-Release.is

-- ---- an acquire

pub acquire-requires : goal.acquire-requires
acquire-requires c = acquire_ready (accepts_as c.in-Acquire.is c.requires.0)

pub returns-in-Acquire-clause-call : goal.returns-in-Acquire-clause-call
unfolding lazy_call
returns-in-Acquire-clause-call c = rw c.in-Acquire.is

pub returns-in-Acquire-clause-state_after : goal.returns-in-Acquire-clause-state_after
returns-in-Acquire-clause-state_after c =
    c.acquire.ensures c.args.protocol ∙ acquire_same _ _ _ _ (accepts_as c.in-Acquire.is c.requires.0) ∙ ap (after_of _ _ _) (sym c.in-Acquire.is)

pub returns-in-Acquire-clause-tree_after : goal.returns-in-Acquire-clause-tree_after
returns-in-Acquire-clause-tree_after c = acquire_stands _ _ _ _ _ _ c.requires.1 _
    (c.acquire.ensures c.args.protocol ∙ acquire_same _ _ _ _ (accepts_as c.in-Acquire.is c.requires.0))

-- ---- an unlock

pub unlock-requires : goal.unlock-requires
unlock-requires c = (unlock_ready (accepts_as c.in-Unlock.is c.requires.0), c.requires.1)

pub returns-in-Unlock-clause-state_after : goal.returns-in-Unlock-clause-state_after
returns-in-Unlock-clause-state_after c =
    c.unlock.ensures.state_after ∙ unlock_same _ _ _ _ (accepts_as c.in-Unlock.is c.requires.0) ∙ ap (after_of _ _ _) (sym c.in-Unlock.is)

-- ---- work

pub work-requires : goal.work-requires
work-requires c = (work_ready (accepts_as c.in-Work.is c.requires.0), c.requires.1)

pub returns-in-Work-clause-call : goal.returns-in-Work-clause-call
unfolding lazy_call
returns-in-Work-clause-call c = rw c.in-Work.is

pub returns-in-Work-clause-state_after : goal.returns-in-Work-clause-state_after
returns-in-Work-clause-state_after c =
    c.work.ensures ∙ work_same _ _ _ _ (accepts_as c.in-Work.is c.requires.0) ∙ ap (after_of _ _ _) (sym c.in-Work.is)

pub returns-in-Work-clause-tree_after : goal.returns-in-Work-clause-tree_after
returns-in-Work-clause-tree_after c =
    work_stands c.args.protocol _ _ _ _ _ c.requires.1 _ (c.work.ensures ∙ work_same _ _ _ _ (accepts_as c.in-Work.is c.requires.0))

-- ---- a finish and a tick

pub finish-requires : goal.finish-requires
finish-requires c = (finish_ready (accepts_as c.in-Finish.is c.requires.0), c.requires.1)

pub returns-in-Finish-clause-call : goal.returns-in-Finish-clause-call
unfolding lazy_call
returns-in-Finish-clause-call c = rw c.in-Finish.is

pub tick-requires : goal.tick-requires
tick-requires c = (tick_ready (accepts_as c.in-Tick.is c.requires.0), c.requires.1)

pub returns-in-Tick-clause-call : goal.returns-in-Tick-clause-call
unfolding lazy_call
returns-in-Tick-clause-call c = rw c.in-Tick.is

pub returns-in-Tick-clause-tree_after : goal.returns-in-Tick-clause-tree_after
returns-in-Tick-clause-tree_after c = ticked_stands _ _ _ _ _ _ c.requires.1 c.tick.ensures
