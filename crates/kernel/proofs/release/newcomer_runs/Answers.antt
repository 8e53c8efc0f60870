-- `kernel::release::newcomer_runs` meets its contract. The newcomer is alone at the top. Assumes nothing.
use Rattle.std.proofs.Common.{◌≡◌, max, rules}
use Rattle.kernel.proofs.SwitchLaws.{newcomer_first}
use Rattle.kernel.proofs.release.newcomer_runs.Goals as goal

pub returns-clause-state_after : goal.returns-clause-state_after
returns-clause-state_after c =
    let b : c.max.result.0 ≡ max c.args.most.0 c.recorded-leaving.result.0 = search rules in
    newcomer_first _ _ _ _ _ _ _ c.requires.arrives.1 _ _ _ _ _ c.requires.arrives.0 c.recorded-leaving.ensures c.keep.ensures.state_after
    c.shown-state.ensures b c.second_word-state.ensures c.requires.user_lt_base.0 c.requires.user_lt_base.1 c.requires.user_lt_base.2
