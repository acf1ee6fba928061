use Rattle.std.proofs.Common.{rules, ap, ◌∙◌}
use Rattle.muf_model.specs.inner.View.{view}
use Rattle.muf_model.specs.Measures.{weight}
use Rattle.muf_model.proofs.Sized.{weight_within, weight_with}
use Rattle.muf_model.proofs.held.size_with.Goals as goal

pub overflow_sub-result : goal.overflow_sub-result
overflow_sub-result g c =
    weight_within g.H.Held.held c.args.values.now c.args.at c.index-values-at.result _ _ c.requires.there (search (rules, c.index-values-at.is)) (c.weight.ensures.weight ∙ ap weight c.value-was.ensures) c.requires.weight

pub returns-clause-weight : goal.returns-clause-weight
returns-clause-weight g c =
    weight_with g.H.Held.held c.args.values.now c.args.at (view c.args.value.now) c.index-values-at.result _ _ _ c.requires.there (search (rules, c.index-values-at.is)) (c.weight.ensures.weight ∙ ap weight c.value-was.ensures) c.weight-2.ensures.weight c.requires.weight
