use Rattle.std.proofs.Common.{◌≡◌, length}
use Rattle.muf_token.specs.inner.Places.{text_at}
use Rattle.muf_token.specs.Directives.{body_at}
use Rattle.muf_token.specs.inner.Spots.{spot_of}
use Rattle.muf_token.proofs.Bodies.{after_pieces}
use Rattle.muf_token.proofs.directive.body_at.Given as goal

-- what was found, and then what the rest gives, is what the whole gives
abbrev pub invariant-loop-body : goal.invariant-loop-body
invariant-loop-body l = after_pieces l.body (body_at l.line (spot_of l.place)) ≡ body_at l.fn.line (spot_of l.fn.place)

abbrev pub decreases-loop-body : goal.decreases-loop-body
decreases-loop-body l = length (text_at l.place)
