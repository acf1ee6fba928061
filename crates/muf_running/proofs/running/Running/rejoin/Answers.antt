use Rattle.std.proofs.Common.{List, sym, subst, ◌∙◌, ap}
use Rattle.muf_model.specs.inner.Flat.{decode}
use Rattle.muf_frame.specs.inner.Shown.{flat}
use Rattle.muf_running.specs.declared.entered.Entered.{Entered}
use Rattle.muf_running.specs.inner.Fitting.{codes_of, ProgramsFit}
use Rattle.muf_running.proofs.Process.{lent_at}
use Rattle.muf_running.proofs.running.Running.rejoin.Goals as goal

pub invariant_of-result : goal.invariant_of-result
invariant_of-result c =
    let (f, s, apart, differs) = c.requires in
    subst (λ (es : List Entered). ProgramsFit es (flat c.args.frame)) (sym c.programs.view_is) (lent_at c.args.programs f (flat c.args.frame) s apart differs).0

pub returns : goal.returns
returns c f s apart differs =
    ap (λ (es : List Entered). decode (codes_of es) (flat c.args.frame)) c.programs.view_is ∙ (lent_at c.args.programs f (flat c.args.frame) s apart differs).1
