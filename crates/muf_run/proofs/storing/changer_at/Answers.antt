use Rattle.std.proofs.Common.{◌≡◌, subst}
use Rattle.muck_laws.proofs.Options.{if_some_mapped}
use Rattle.muf_model.specs.declared.code.Word.TheVariants.{Primitive}
use Rattle.muf_array.specs.inner.Open.{prim_of}
use Rattle.muf_run.specs.inner.Storing.{HasWord}
use Rattle.muf_run.proofs.storing.changer_at.Goals as goal

pub returns-in-Some : goal.returns-in-Some
returns-in-Some c =
    if_some_mapped (λ changer. c.in-Some.word.now ≡ Primitive (prim_of changer)) (λ changer. HasWord c.args.code.now c.args.place (Primitive (prim_of changer))) c.changer_of.result (λ changer e. subst (HasWord c.args.code.now c.args.place) e c.in-Some.ensures) c.changer_of.ensures
