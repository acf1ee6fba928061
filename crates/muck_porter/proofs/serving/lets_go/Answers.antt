use Rattle.std.proofs.Common.{rules, ap, ◌∙◌}
use Rattle.muck_links.specs.Sessions.{on_session, shut, LinksTold}
use Rattle.atomic_table.proofs.Lists.{at_index}
use Rattle.muck_porter.proofs.Doing.{closed_at}
use Rattle.muck_porter.proofs.serving.lets_go.Goals as goal

pub returns-clause-told : goal.returns-clause-told
returns-clause-told g c t =
    closed_at c.args.at _ _ c.args.peers.now.items c.remove-peer.result
    (at_index c.args.peers.now.items c.args.at c.remove-peer.result (search rules) c.remove-peer.ensures.value)
    (c.close.ensures.told t ∙ ap (λ n. on_session n shut (g.L.Links.told c.args.links.now)) c.number.ensures)

pub returns-clause-ports : goal.returns-clause-ports
returns-clause-ports g c t = ap (λ (x : LinksTold). x.ports) (c.close.ensures.told t)
