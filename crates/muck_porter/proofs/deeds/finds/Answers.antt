use Rattle.std.proofs.Common.{◌≡◌, ◌<◌, length, rules, sym, ◌∙◌, subst}
use mathlib.Core.Option.{some, some-injective}
use lib.ListN.{get_elem?}
use Rattle.atomic_table.proofs.Lists.{at_index}
use Rattle.spec_events.specs.Histories.{now}
use Rattle.spec_serve.specs.inner.Keeping.{Peer}
use Rattle.muck_peer.specs.Moves.{IsWanted}
use Rattle.muck_porter.proofs.deeds.finds.Goals as goal

pub returns-in-Some : goal.returns-in-Some
returns-in-Some c =
    let below : c.loop-at.at < length c.args.peers.now.items = search rules in
    let here : get_elem? c.args.peers.now.items c.loop-at.at ≡ some c.index-peer.result.now = at_index c.args.peers.now.items c.loop-at.at c.index-peer.result.now below c.index-peer.ensures in
    (c.loop-at.invariant, below, (λ p at. subst (λ (q : Peer). IsWanted c.in-Some.want q (now c.args.world.now)) (some-injective c.index-peer.result.now p (sym here ∙ at)) c.in-Some.ensures))
