use Rattle.std.proofs.Common.{arith, map}
use Rattle.muf_model.specs.inner.View.{view}
use Rattle.muf_model.proofs.Sized.{weight_pushed, nesting_pushed}
use Rattle.muf_model.proofs.lists.size_pushed.Goals as goal

pub returns-clause-weight : goal.returns-clause-weight
returns-clause-weight c =
    omega (arith, c.with.ensures.weight, c.requires.weighs, weight_pushed (map view c.args.values.now) (view c.args.value.now))

pub returns-clause-nesting : goal.returns-clause-nesting
returns-clause-nesting c =
    omega (arith, c.with.ensures.nesting, c.requires.nests, nesting_pushed (map view c.args.values.now) (view c.args.value.now))
