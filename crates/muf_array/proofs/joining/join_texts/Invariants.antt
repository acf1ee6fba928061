use Rattle.std.proofs.Common.{◌≡◌, ◌≤◌, ◌-◌, ◌++◌, length, map}
use Rattle.muf_model.specs.inner.View.{view}
use Rattle.muf_model.specs.Texts.{texts_joined}
use Rattle.muf_model.proofs.FaultTexts.{IsInside}
use Rattle.muf_array.specs.inner.Shapes.{text_in, values_in}
use Rattle.muf_array.proofs.Texts.{left_of}
use Rattle.muf_array.proofs.joining.join_texts.Given as goal

abbrev pub invariant-loop-at : goal.invariant-loop-at
invariant-loop-at l =
    (l.at ≤ length (values_in (view l.fn.held)))
    × IsInside l.made.items
    × (l.made.items ++ left_of l.fn.between l.at (map text_in (values_in (view l.fn.held))) ≡ texts_joined l.fn.between (map text_in (values_in (view l.fn.held))))

abbrev pub decreases-loop-at : goal.decreases-loop-at
decreases-loop-at l = length (values_in (view l.fn.held)) - l.at
