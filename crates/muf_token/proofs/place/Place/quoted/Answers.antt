use Rattle.muf_token.proofs.Quotes.{open_end}
use Rattle.muf_token.proofs.place.Place.quoted.Goals as goal

pub returns : goal.returns
returns c = open_end c.loop-byte.value.items c.loop-byte.escaped c.loop-byte.here.now c.args.self.below.now _ c.in_default.ensures.cases c.loop-byte.invariant.whole
