use Rattle.std.proofs.Common.{refl}
use Rattle.atomic_table.proofs.Lists.{at_index}
use Rattle.muck_porter.proofs.Doing.{peer_closed}
use Rattle.muck_porter.proofs.deeds.serves_at.Goals as goal

pub chooses-requires-clause-wanted : goal.chooses-requires-clause-wanted
chooses-requires-clause-wanted g c = c.requires.wanted c.index_mut-peer.result.now (at_index c.args.peers.now.items c.args.at c.index_mut-peer.result.now c.requires.below c.index_mut-peer.ensures.value)

pub returns-in-Went-clause-step : goal.returns-in-Went-clause-step
returns-in-Went-clause-step g c =
    let s = c.in-Went.ensures in
    (s.0, s.1, (c.index_mut-peer.result.now, c.chooses.new.self, at_index c.args.peers.now.items c.args.at c.index_mut-peer.result.now c.requires.below c.index_mut-peer.ensures.value, refl, s.2), s.3)

pub returns-in-Closed-clause-step : goal.returns-in-Closed-clause-step
returns-in-Closed-clause-step g c =
    let s = c.in-Closed.ensures in
    (s.0, s.1, (c.index_mut-peer.result.now, at_index c.args.peers.now.items c.args.at c.index_mut-peer.result.now c.requires.below c.index_mut-peer.ensures.value, peer_closed c.args.peers.now.items c.args.at c.index_mut-peer.result.now c.chooses.new.self s.2.1, s.2.0, s.2.2), s.3)
