use Rattle.std.proofs.Common.{rules, ◌∙◌}
use Rattle.muck_laws.proofs.Places.{put_same}
use Rattle.atomic_table.proofs.Lists.{at_index}
use Rattle.muck_porter.proofs.tending.holds_back.Goals as goal

pub loop-at-preserved : goal.loop-at-preserved
loop-at-preserved c =
    put_same c.loop-at.peers.items c.loop-at.at c.index_mut-peer.result.now c.holds_back.new.self
    (at_index c.loop-at.peers.items c.loop-at.at c.index_mut-peer.result.now (search rules) c.index_mut-peer.ensures.value) c.holds_back.ensures ∙ c.loop-at.invariant
