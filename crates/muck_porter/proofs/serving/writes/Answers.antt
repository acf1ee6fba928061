use Rattle.std.proofs.Common.{rules}
use Rattle.muck_porter.proofs.Doing.{wrote_at, ports_stepped}
use Rattle.atomic_table.proofs.Lists.{at_index}
use Rattle.muck_porter.proofs.serving.writes.Goals as goal

pub returns-clause-wrote : goal.returns-clause-wrote
returns-clause-wrote g c t =
    wrote_at c.args.at c.args.noted _ _ c.args.peers.now.items c.index_mut-peer.result.now c.sends_some.new.self
    (at_index c.args.peers.now.items c.args.at c.index_mut-peer.result.now (search rules) c.index_mut-peer.ensures.value) (c.sends_some.ensures.step t)

pub returns-clause-ports : goal.returns-clause-ports
returns-clause-ports g c t = ports_stepped c.args.noted _ _ _ _ (c.sends_some.ensures.step t)
