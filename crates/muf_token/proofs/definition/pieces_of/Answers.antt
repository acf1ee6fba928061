use Rattle.muf_token.specs.inner.Places.{text_at}
use Rattle.muf_token.proofs.Fronts.{pieces_more}
use Rattle.muf_token.proofs.definition.pieces_of.Goals as goal

pub loop-found-preserved : goal.loop-found-preserved
loop-found-preserved c =
    let at = rw c.in-Ok-Some.field-0-is at c.in-Ok-Some.ensures in
    rw c.in_ok-push-in-Ok-Some.ensures.ok (pieces_more c.loop-found.list c.loop-found.place.line _ _ _ (text_at c.loop-found.place) _ _ at c.loop-found.invariant)
