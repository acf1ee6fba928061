use Rattle.std.proofs.Common.{arith, subst}
use Rattle.muf_frame.specs.inner.Shown.{flat}
use Rattle.muf_run.specs.inner.Ends.{StepEnds}
use Rattle.muf_run.proofs.GoesOn.{step_more}
use Rattle.muf_run.proofs.run.changing_step.Goals as goal

pub returns-then-stored : goal.returns-then-stored
returns-then-stored c = (omega arith, omega arith, c.in-Ok.ensures.yes c.if-stored.true)

pub returns-else-stored : goal.returns-else-stored
returns-else-stored c =
    subst (λ f. StepEnds 3 c.args.code.now (flat f) c.one_step.result (flat c.one_step.new.frame)) (c.in-Ok.ensures.no c.if-stored.false) (step_more 1 3 c.args.code.now (flat c.store_changed.new.frame) (flat c.one_step.new.frame) c.one_step.result (omega arith) c.one_step.ensures)
