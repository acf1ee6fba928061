use Rattle.std.proofs.Common.{rules, arith, ap, ◌∙◌}
use Rattle.muf_model.specs.inner.View.{view}
use Rattle.muf_model.specs.Measures.{nesting}
use Rattle.muf_model.proofs.Sized.{deepest_new, deepest_kept}
use Rattle.muf_model.proofs.held.deepest_with.Goals as goal

pub returns-then-deepest-nesting : goal.returns-then-deepest-nesting
returns-then-deepest-nesting g c =
    deepest_new g.H.Held.held c.args.values.now c.args.at (view c.args.value.now) _ _ c.requires.there c.nesting-nesting.ensures.nesting c.requires.known (omega arith)

pub returns-then-nesting-deepest : goal.returns-then-nesting-deepest
returns-then-nesting-deepest g c =
    deepest_kept g.H.Held.held c.args.values.now c.args.at (view c.args.value.now) c.index-values-at.result _ _ _ c.requires.there (search (rules, c.index-values-at.is)) c.nesting-nesting.ensures.nesting (c.nesting.ensures.nesting ∙ ap nesting c.value-was.ensures) c.requires.known (omega arith) (omega arith)
