use Rattle.std.proofs.Common.{◌≡◌, ◌++◌, length}
use Rattle.muf_token.specs.Pieces.{source_pieces}
use Rattle.muf_token.specs.inner.Places.{text_at}
use Rattle.muf_token.proofs.Fronts.{pieces_from}
use Rattle.muf_token.proofs.definition.pieces_of.Given as goal

-- what was found, and what the rest has, is what the text has
abbrev pub invariant-loop-found : goal.invariant-loop-found
invariant-loop-found l = l.list ++ pieces_from l.place.line (text_at l.place) ≡ source_pieces l.text

abbrev pub decreases-loop-found : goal.decreases-loop-found
decreases-loop-found l = length (text_at l.place)
