use Rattle.std.proofs.Common.{arith}
use Rattle.muf_model.specs.inner.View.{view}
use Rattle.muf_model.proofs.Sized.{nesting_step}
use Rattle.muf_model.proofs.held.nesting_with.Goals as goal

pub loop-i-preserved : goal.loop-i-preserved
loop-i-preserved g c =
    (omega arith, omega (arith, c.deeper-deepest.ensures, c.nesting.ensures.nesting, c.loop-i.invariant.1, nesting_step g.H.Held.held c.args.values.now c.loop-i.i c.args.at (view c.args.value.now) (view c.one_of.result.now) (omega arith) c.one_of.ensures))
