use Rattle.std.proofs.Common.{◌≡◌, ap, sym, ◌∙◌}
use Rattle.muck_laws.proofs.Options.{if_some_mapped}
use Rattle.muf_model.specs.declared.code.Word.TheVariants.{Primitive}
use Rattle.muf_array.specs.inner.Open.{prim_of}
use Rattle.muf_run.proofs.storing.changer_of.Goals as goal

pub returns-in-Primitive : goal.returns-in-Primitive
returns-in-Primitive c =
    if_some_mapped (λ changer. prim_of changer ≡ c.in-Primitive.prim) (λ changer. c.args.word.now ≡ Primitive (prim_of changer)) c.of.result (λ changer e. c.in-Primitive.is ∙ ap Primitive (sym e)) c.of.ensures
