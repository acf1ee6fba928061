use Rattle.std.proofs.Common.{refl, sym, ◌∙◌, arith}
use Rattle.std.proofs.lemmas.List.{length-map}
use Rattle.muf_model.specs.declared.prims.Primitive.TheVariants.{ArrayDelItem}
use Rattle.muf_model.specs.Prims.{primitive_level}
use Rattle.muf_model.specs.inner.View.{view}
use Rattle.muf_model.specs.ArrayRows.{gone_from}
use Rattle.muf_frame.specs.inner.Shown.{flat}
use Rattle.muf_frame.specs.inner.Moves.{scope_of}
use Rattle.muf_array.proofs.Taking.{held_fault}
use Rattle.muf_array.proofs.shapes.delete.Goals as goal

pub returns-in-Some-gone_top_fault : goal.returns-in-Some-gone_top_fault
returns-in-Some-gone_top_fault c =
    let f = flat c.args.frame.now in
    (held_fault gone_from (primitive_level ArrayDelItem) (scope_of 0 f) f.stack c.in-Some.key c.in-Some-gone_top_fault.refused (omega (arith, c.in_ok-need.ensures, length-map c.args.frame.now.stack view)) (sym c.in_ok-key.ensures ∙ c.in-Some.is) (sym c.gone_top_fault.ensures ∙ c.in-Some-gone_top_fault.is), refl)
