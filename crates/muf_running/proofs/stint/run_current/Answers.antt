use Rattle.std.proofs.Common.{◌≡◌, List, ◌∷◌, drop, reverse, sym, ap, subst, ◌∙◌}
use Rattle.muck_laws.proofs.Results.{if_ok_mapped}
use Rattle.muf_model.specs.declared.code.Code.{Code}
use Rattle.muf_model.specs.inner.Fits.{Fits}
use Rattle.muf_model.specs.inner.Flat.{decode}
use Rattle.muf_model.specs.Unit.{units}
use Rattle.muf_frame.specs.inner.Shown.{flat}
use Rattle.muf_run.specs.inner.Runs.{RunsAlike}
use Rattle.muf_running.specs.inner.Fitting.{codes_of}
use Rattle.muf_running.proofs.Process.{first_there, run_at}
use Rattle.muf_running.proofs.stint.run_current.Goals as goal

pub returns-clause-answer : goal.returns-clause-answer
returns-clause-answer c =
    let cs : List Code = codes_of (reverse c.args.programs.now) in
    let e : c.running_code-code.result.now ∷ drop 1 cs ≡ cs = ap (λ x. x ∷ drop 1 cs) c.running_code-code.ensures ∙ sym (first_there c.requires.0.state) in
    if_ok_mapped _ _ c.run_local.result (λ l h. run_at (reverse c.args.programs.now) (flat c.args.frame.now) (flat c.run_local.new.frame) l c.args.most c.requires (subst (λ xs. RunsAlike xs l (flat c.run_local.new.frame) (units c.args.most (decode xs (flat c.args.frame.now)))) e (h (drop 1 cs) (subst (λ xs. Fits xs (flat c.args.frame.now)) (sym e) c.requires.0)))) c.run_local.ensures.answer
