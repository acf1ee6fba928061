use Rattle.std.proofs.Common.{◌≡◌, ◌≤◌, ◌+◌, length}
use Rattle.muf_model.specs.Texts.{text_pieces}
use Rattle.prim_text.proofs.places.has_more_pieces.Given as goal

abbrev pub invariant-loop-at : goal.invariant-loop-at
invariant-loop-at l =
    (l.count + length (text_pieces l.sought l.rest) ≡ length (text_pieces l.sought l.bytes))
    × (l.count ≤ l.most)

abbrev pub decreases-loop-at : goal.decreases-loop-at
decreases-loop-at l = length l.rest
