use Rattle.std.proofs.Common.{rules, arith, map, set, ap, ◌∙◌}
use Rattle.muf_model.specs.Datum.{data_of}
use Rattle.muf_model.specs.Measures.{data_weight, data_nesting}
use Rattle.muf_model.specs.inner.View.{view}
use Rattle.muf_model.proofs.Sized.{within, set_fits}
use Rattle.muf_model.proofs.value.ValueList.put.Goals as goal

pub size_with-size-requires-clause-weight : goal.size_with-size-requires-clause-weight
size_with-size-requires-clause-weight c =
    omega (arith, c.self.invariant.weighs, ap (λ vs. data_weight (data_of (map view vs))) c.deref.ensures.value)

pub size_with-size-requires-clause-nesting : goal.size_with-size-requires-clause-nesting
size_with-size-requires-clause-nesting c =
    omega (arith, c.self.invariant.nests, ap (λ vs. data_nesting (data_of (map view vs))) c.deref.ensures.value)

pub size_with-size-requires-clause-most : goal.size_with-size-requires-clause-most
size_with-size-requires-clause-most c = (within _ _ c.self.invariant).0

pub invariant_of-self : goal.invariant_of-self
invariant_of-self c =
    rw c.put_value.ensures (set_fits c.args.at (map view c.self.inside.items.items) (view c.args.value) c.self.inside.size c.size_with-size.result c.self.invariant c.size_with-size.ensures.value (c.size_with-size.ensures.weight ∙ ap (λ vs. data_weight (data_of (set (map view vs) c.args.at (view c.args.value)))) c.deref.ensures.value) (c.size_with-size.ensures.nesting ∙ ap (λ vs. data_nesting (data_of (set (map view vs) c.args.at (view c.args.value)))) c.deref.ensures.value) (search (rules, c.fits.ensures, c.if-not-fits.false)))
