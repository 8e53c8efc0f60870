-- `kernel::work::delays` meets its contract. Each turn writes one task's delay. Assumes nothing.
use Rattle.std.proofs.Common.{◌∙◌, refl, ap, arith}
use Rattle.rules.proofs.Numbers.Place.{renewed_start, renewed_ends}
use Rattle.kernel.proofs.WorkLaws.{waited_next}
use Rattle.kernel.proofs.work.delays.Goals as goal

pub loop-t-init : goal.loop-t-init
loop-t-init c = (refl, renewed_start _ _ _)

pub loop-t-preserved : goal.loop-t-preserved
loop-t-preserved c = waited_next _ _ _ _ _ _ c.loop-t.invariant (omega arith) c.delay_of.ensures

pub returns : goal.returns
returns c = c.loop-t.invariant.0 ∙ ap (λ d. record c.args.state.now { delay = d }) (renewed_ends _ _ _ _ _ c.loop-t.invariant.1 (omega arith))
