use Rattle.std.proofs.Common.{rules, map, ap, ◌∙◌, ◌++◌, ◌∷◌, []}
use Rattle.muf_model.specs.Datum.{data_of}
use Rattle.muf_model.specs.inner.View.{view}
use Rattle.muf_model.specs.Measures.{data_weight, data_nesting}
use Rattle.muf_model.proofs.Sized.{pushed_fits}
use Rattle.muf_model.proofs.value.ValueList.push.Goals as goal

pub invariant_of-self-2 : goal.invariant_of-self-2
invariant_of-self-2 c =
    rw c.in_ok-push_value.ensures.ok (pushed_fits (map view c.self.inside.items.items) (view c.args.value) c.self.inside.size c.size_pushed-size.result c.self.invariant c.size_pushed-size.ensures.value (c.size_pushed-size.ensures.weight ∙ ap (λ vs. data_weight (data_of (map view vs ++ view c.args.value ∷ []))) c.deref.ensures.value) (c.size_pushed-size.ensures.nesting ∙ ap (λ vs. data_nesting (data_of (map view vs ++ view c.args.value ∷ []))) c.deref.ensures.value) (search (rules, c.fits.ensures, c.if-not-fits.false)))
