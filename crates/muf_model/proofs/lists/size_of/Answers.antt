use Rattle.std.proofs.Common.{rules, arith, map, ap, ◌∙◌, ◌+◌, max, subst}
use Rattle.std.proofs.lemmas.List.{length-map}
use Rattle.muck_laws.proofs.Places.{mapped_read}
use Rattle.muf_model.specs.Measures.{weight, nesting}
use Rattle.muf_model.specs.Values.{IsValue}
use Rattle.muf_model.proofs.Sized.{part_fits, part_unfit}
use Rattle.muf_model.proofs.lists.size_of.Goals as goal

pub returns-then-not-fits : goal.returns-then-not-fits
returns-then-not-fits g c =
    part_unfit c.loop-at.at (map g.H.Held.held c.args.values.now) (g.H.Held.held c.index-values-at.result) c.loop-at.size c.with-size.result (omega (arith, length-map c.args.values.now g.H.Held.held)) (mapped_read g.H.Held.held c.loop-at.at c.args.values.now c.index-values-at.result (search (rules, c.index-values-at.is))) c.loop-at.invariant.1 (c.with-size.ensures.weight ∙ ap (λ d. c.loop-at.size.weight + weight d) c.value.ensures) (c.with-size.ensures.nesting ∙ ap (λ d. max c.loop-at.size.nesting (nesting d)) c.value.ensures) (search (rules, c.fits.ensures, c.if-not-fits.true))

pub loop-at-preserved : goal.loop-at-preserved
loop-at-preserved g c =
    (omega arith, part_fits c.loop-at.at (map g.H.Held.held c.args.values.now) (g.H.Held.held c.index-values-at.result) c.loop-at.size c.with-size.result (omega (arith, length-map c.args.values.now g.H.Held.held)) (mapped_read g.H.Held.held c.loop-at.at c.args.values.now c.index-values-at.result (search (rules, c.index-values-at.is))) c.loop-at.invariant.1 (subst IsValue c.value.ensures c.with-size.ensures.value) (c.with-size.ensures.weight ∙ ap (λ d. c.loop-at.size.weight + weight d) c.value.ensures) (c.with-size.ensures.nesting ∙ ap (λ d. max c.loop-at.size.nesting (nesting d)) c.value.ensures) (search (rules, c.fits.ensures, c.if-not-fits.false)))
