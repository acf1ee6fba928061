use Rattle.std.proofs.lemmas.Bool.{both_ways}
use Rattle.muck_laws.proofs.Lists.{stable}
use Rattle.muck_peer.proofs.peer.Peer.narrows.Goals as goal

pub has_room-requires : goal.has_room-requires
has_room-requires c = stable _ (λ some. both_ways c.has_unsent.result c.if-not-has_unsent.true (c.has_unsent.ensures.1 some))
