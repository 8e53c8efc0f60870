use Rattle.std.proofs.Common.{length, replicate}
use Rattle.rules.specs.Numbers.Capacity.{max_tasks, max_locks}
use Rattle.rules.specs.Numbers.Place.{at}
use Rattle.rules.specs.Books.Load.{task_base, task_maximum, lock_ceiling, lock_limit}
use Rattle.rules.proofs.Numbers.Place.{RenewedSoFar}
use Rattle.plan.proofs.Masks.{MasksSoFar}
use Rattle.plan.proofs.build.built.Given as goal

abbrev pub invariant-loop-t : goal.invariant-loop-t
invariant-loop-t l =
    RenewedSoFar (replicate max_tasks 0) (λ k. task_base (at l.tasks k)) (length l.tasks) l.t l.base
    × RenewedSoFar (replicate max_tasks 0) (λ k. task_maximum (at l.tasks k)) (length l.tasks) l.t l.maximum

abbrev pub invariant-loop-l : goal.invariant-loop-l
invariant-loop-l l =
    RenewedSoFar (replicate max_locks 0) (λ k. lock_ceiling (at l.locks k)) (length l.locks) l.l l.ceiling
    × RenewedSoFar (replicate max_locks 0) (λ k. lock_limit (at l.locks k)) (length l.locks) l.l l.limit

abbrev pub invariant-loop-w : goal.invariant-loop-w
invariant-loop-w l = MasksSoFar l.uses l.w-index l.masks
