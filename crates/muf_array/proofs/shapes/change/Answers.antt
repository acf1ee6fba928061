use Rattle.std.proofs.Common.{refl, sym, ◌∙◌, arith}
use Rattle.std.proofs.lemmas.List.{length-map}
use Rattle.muf_model.specs.Prims.{primitive_level}
use Rattle.muf_model.specs.inner.View.{view}
use Rattle.muf_frame.specs.inner.Shown.{flat}
use Rattle.muf_frame.specs.inner.Moves.{scope_of}
use Rattle.muf_array.specs.inner.Shapes.{changed}
use Rattle.muf_array.proofs.Taking.{item_fault}
use Rattle.muf_array.proofs.shapes.change.Goals as goal

pub returns-in-Some-top_fault : goal.returns-in-Some-top_fault
returns-in-Some-top_fault c =
    let f = flat c.args.frame.now in
    (item_fault (changed c.args.change) (primitive_level c.args.prim) (scope_of 0 f) f.stack c.in-Some.key c.in-Some-top_fault.refused (omega (arith, c.in_ok-need.ensures, length-map c.args.frame.now.stack view)) (sym c.in_ok-key.ensures ∙ c.in-Some.is) (sym c.top_fault.ensures ∙ c.in-Some-top_fault.is), refl)
