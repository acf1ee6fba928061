use Rattle.std.proofs.Common.{◌≡◌, None, length}
use Rattle.muf_token.specs.Pieces.{piece_ahead}
use Rattle.muf_token.specs.inner.Places.{text_at}
use Rattle.muf_token.proofs.place.Place.lead.Given as goal

-- what is in front of here is what was in front of the start
abbrev pub invariant-loop-byte : goal.invariant-loop-byte
invariant-loop-byte l = piece_ahead l.comment l.place.line (text_at l.place) ≡ piece_ahead None l.fn.self.line (text_at l.fn.self)

abbrev pub decreases-loop-byte : goal.decreases-loop-byte
decreases-loop-byte l = length (text_at l.place)
