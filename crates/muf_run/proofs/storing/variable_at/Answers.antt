use Rattle.std.proofs.Common.{◌≡◌, subst}
use Rattle.muck_laws.proofs.Options.{if_some_mapped}
use Rattle.muf_model.specs.declared.code.Word.TheVariants.{Variable}
use Rattle.muf_run.specs.inner.Storing.{HasWord}
use Rattle.muf_run.proofs.storing.variable_at.Goals as goal

pub returns-in-Some : goal.returns-in-Some
returns-in-Some c =
    if_some_mapped (λ v. c.in-Some.word.now ≡ Variable v) (λ v. HasWord c.args.code.now c.args.place (Variable v)) c.variable_of.result (λ v e. subst (HasWord c.args.code.now c.args.place) e c.in-Some.ensures) c.variable_of.ensures
