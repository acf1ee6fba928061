use Rattle.std.proofs.Common.{map, ap, ◌∙◌, length, arith}
use Rattle.std.specs.List.{remove}
use Rattle.muf_model.specs.Datum.{data_of}
use Rattle.muf_model.specs.inner.View.{view}
use Rattle.muf_model.specs.Measures.{data_weight, data_nesting}
use Rattle.muf_model.proofs.Edited.{less_fits}
use Rattle.muf_model.proofs.value.ValueList.remove.Goals as goal

pub invariant_of-self : goal.invariant_of-self
invariant_of-self c =
    rw c.remove_value.ensures (less_fits c.args.at (map view c.self.inside.items.items) c.self.inside.size c.size_without-size.result (omega (arith, c.requires, ap length c.self.view_is)) c.self.invariant (c.size_without-size.ensures.weight ∙ ap (λ vs. data_weight (data_of (remove (map view vs) c.args.at))) c.deref.ensures.value) (c.size_without-size.ensures.nesting ∙ ap (λ vs. data_nesting (data_of (remove (map view vs) c.args.at))) c.deref.ensures.value))
