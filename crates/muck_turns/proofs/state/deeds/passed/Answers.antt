use Rattle.std.proofs.Common.{ap, subst, sym, ◌∙◌}
use Rattle.muf_model.specs.Source.{item_passed}
use Rattle.muf_running.specs.inner.Fitting.{IsAtPrimitive}
use Rattle.muck_turns.proofs.state.deeds.passed.Goals as goal

pub rejoin-next-requires : goal.rejoin-next-requires
rejoin-next-requires c =
    let (f, s, apart, differs, at) = c.requires in
    (f, s, apart, differs)

pub pass-requires : goal.pass-requires
pass-requires c =
    let (f, s, apart, differs, at) = c.requires in
    subst (λ t. IsAtPrimitive t.now) (sym (c.rejoin-next.ensures f s apart differs)) at

pub returns : goal.returns
returns c f s apart differs = c.pass.ensures ∙ ap (λ t. item_passed t) (c.rejoin-next.ensures f s apart differs)
