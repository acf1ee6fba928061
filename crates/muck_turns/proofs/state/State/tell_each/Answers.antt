use Rattle.std.proofs.Common.{refl, ◌∙◌}
use Rattle.muck_turns.proofs.Dumping.{told_one, told_none}
use Rattle.muck_turns.proofs.state.State.tell_each.Goals as goal

pub loop-d-init : goal.loop-d-init
loop-d-init c = refl

pub loop-d-preserved : goal.loop-d-preserved
loop-d-preserved c = told_one _ _ _ _ c.loop-d.self c.tell.new.self c.loop-d-test.true refl c.in_ok-tell.ensures ∙ c.loop-d.invariant

pub returns : goal.returns
returns c = told_none _ _ _ c.loop-d.self c.loop-d-test.false ∙ c.loop-d.invariant
