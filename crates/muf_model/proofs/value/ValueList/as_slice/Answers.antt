use Rattle.std.proofs.Common.{ap, arith, map, length}
use Rattle.std.proofs.lemmas.List.{length-map}
use Rattle.muf_model.specs.inner.View.{view}
use Rattle.muf_model.proofs.Sized.{most_values}
use Rattle.muf_model.proofs.value.ValueList.as_slice.Goals as goal

pub returns-clause-most : goal.returns-clause-most
returns-clause-most c =
    omega (arith, ap length c.deref.ensures.value, length-map c.self.inside.items.items view, most_values (map view c.self.inside.items.items) c.self.inside.size c.self.invariant)
