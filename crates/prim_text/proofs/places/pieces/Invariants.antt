use Rattle.std.proofs.Common.{◌≡◌, ◌≤◌, ◌+◌, ◌++◌, None, length, map}
use Rattle.muck_model.specs.Bytes.{text_fault}
use Rattle.muf_model.specs.Datum.{text}
use Rattle.muf_model.specs.Texts.{text_pieces}
use Rattle.muf_model.specs.inner.View.{view}
use Rattle.prim_text.proofs.places.pieces.Given as goal

abbrev pub invariant-loop-at : goal.invariant-loop-at
invariant-loop-at l =
    (map view l.items.items ++ map text (text_pieces l.sought l.rest) ≡ map text (text_pieces l.sought l.bytes))
    × (text_fault l.rest ≡ None)
    × (length l.items.items + length l.rest ≤ length l.bytes)

abbrev pub decreases-loop-at : goal.decreases-loop-at
decreases-loop-at l = length l.rest
