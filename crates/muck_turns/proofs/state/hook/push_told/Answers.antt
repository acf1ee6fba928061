use Rattle.std.proofs.Common.{refl, ◌∙◌}
use Rattle.muck_laws.proofs.Results.{on_ok_as}
use Rattle.muck_turns.proofs.Hooks.{told_next, told_end}
use Rattle.muck_turns.proofs.state.hook.push_told.Goals as goal

pub loop-moved-init : goal.loop-moved-init
loop-moved-init c = refl

pub loop-moved-preserved : goal.loop-moved-preserved
loop-moved-preserved c = told_next c.args.turned _ _ c.args.moves.now c.loop-moved.moved-index _ _ _ _ c.loop-moved-test.true c.in_ok-next.ensures c.loop-moved.invariant

pub returns : goal.returns
returns c =
    on_ok_as c.push_rest.result _ _ (λ e. e ∙ told_end c.args.turned c.loop-moved.rest c.args.moves.now c.loop-moved.moved-index c.loop-moved.causes.items _ c.loop-moved-test.false c.loop-moved.invariant) c.push_rest.ensures
