use Rattle.std.proofs.Common.{ap, arith, map, length}
use Rattle.std.proofs.lemmas.List.{length-map}
use Rattle.muf_model.specs.inner.View.{pair_view}
use Rattle.muf_model.proofs.Sized.{most_pairs}
use Rattle.muf_model.proofs.value.ValueMap.as_slice.Goals as goal

pub returns-clause-most : goal.returns-clause-most
returns-clause-most c =
    omega (arith, ap length c.deref.ensures.value, length-map c.self.inside.pairs.items pair_view, most_pairs (map pair_view c.self.inside.pairs.items) c.self.inside.size c.self.invariant)
