use Rattle.std.proofs.Common.{refl, arith}
use Rattle.muf_frame.specs.inner.Shown.{flat}
use Rattle.muf_run.proofs.GoesOn.{unit_goes_on, unit_over}
use Rattle.muf_run.proofs.run.one_step.Goals as goal

pub returns-then-goes_on : goal.returns-then-goes_on
returns-then-goes_on c =
    (omega arith, omega arith, (flat c.unit-ran.new.frame, unit_goes_on c.args.code.now (flat c.args.frame.now) (flat c.unit-ran.new.frame) c.unit-ran.result (c.goes_on.ensures.yes c.if-goes_on.true) c.unit-ran.ensures, refl))

pub returns-else-goes_on : goal.returns-else-goes_on
returns-else-goes_on c =
    unit_over c.args.code.now (flat c.args.frame.now) (flat c.unit-ran.new.frame) c.unit-ran.result (c.goes_on.ensures.no c.if-goes_on.false) c.unit-ran.ensures
