use Rattle.std.proofs.Common.{rules, map, ap, ◌∙◌}
use Rattle.std.specs.List.{insert}
use Rattle.muf_model.specs.Datum.{data_of}
use Rattle.muf_model.specs.inner.View.{view}
use Rattle.muf_model.specs.Measures.{data_weight, data_nesting}
use Rattle.muf_model.proofs.Edited.{inserted_fits}
use Rattle.muf_model.proofs.value.ValueList.insert.Goals as goal

pub invariant_of-self-2 : goal.invariant_of-self-2
invariant_of-self-2 c =
    rw c.in_ok-insert_value.ensures.ok (inserted_fits c.args.at (map view c.self.inside.items.items) (view c.args.value) c.self.inside.size c.size_inserted-size.result c.self.invariant c.size_inserted-size.ensures.value (c.size_inserted-size.ensures.weight ∙ ap (λ vs. data_weight (data_of (insert (map view vs) c.args.at (view c.args.value)))) c.deref.ensures.value) (c.size_inserted-size.ensures.nesting ∙ ap (λ vs. data_nesting (data_of (insert (map view vs) c.args.at (view c.args.value)))) c.deref.ensures.value) (search (rules, c.fits.ensures, c.if-not-fits.false)))
