use Rattle.std.proofs.Common.{arith, refl, subst}
use Rattle.muf_frame.specs.inner.Shown.{flat}
use Rattle.muf_run.specs.inner.Ends.{StepEnds}
use Rattle.muf_run.proofs.run.step.Goals as goal

pub returns-then-quick : goal.returns-then-quick
returns-then-quick c = (omega arith, omega (arith, c.requires), (flat c.quick.new.frame, c.quick.ensures.yes c.if-quick.true, refl))

pub returns-else-quick : goal.returns-else-quick
returns-else-quick c =
    subst (λ f. StepEnds c.args.left c.args.code.now (flat f) c.slow_step.result (flat c.slow_step.new.frame)) (c.quick.ensures.no c.if-quick.false) c.slow_step.ensures
