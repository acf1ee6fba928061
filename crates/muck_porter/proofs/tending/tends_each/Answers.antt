use Rattle.std.proofs.Common.{rules, refl, ◌∙◌}
use Rattle.atomic_table.proofs.Lists.{at_index}
use Rattle.muck_porter.proofs.Doing.{tends_more, loses_more}
use Rattle.muck_porter.proofs.tending.tends_each.Goals as goal

pub loop-at-init : goal.loop-at-init
loop-at-init g c = (refl, refl, (λ t v b coming n known bk. bk), (λ t. refl))

pub loop-at-preserved : goal.loop-at-preserved
loop-at-preserved g c =
    let inv = c.loop-at.invariant in (
      c.in-Ok.ensures.tells ∙ inv.0,
      c.in-Ok.ensures.listening ∙ inv.1,
      (λ t. tends_more c.args.noted _ _ _ c.args.peers.now.items c.loop-at.peers.items _ c.loop-at.at c.index_mut-peer.result.now c.tends.new.peer
          (at_index c.loop-at.peers.items c.loop-at.at c.index_mut-peer.result.now (search rules) c.index_mut-peer.ensures.value) refl (inv.2 t) (c.in-Ok.ensures.ok (inv.0 ∙ t))),
      (λ t. c.in-Ok.ensures.ports (inv.0 ∙ t) ∙ inv.3 t),
    )

pub returns-in-Err-clause-err : goal.returns-in-Err-clause-err
returns-in-Err-clause-err g c t =
    let inv = c.loop-at.invariant in
    loses_more c.args.noted _ _ _ c.args.peers.now.items c.loop-at.peers.items c.loop-at.at c.index_mut-peer.result.now
    (at_index c.loop-at.peers.items c.loop-at.at c.index_mut-peer.result.now (search rules) c.index_mut-peer.ensures.value) (inv.2 t) (c.in-Err.ensures.err (inv.0 ∙ t))

pub returns-in-Err-clause-ports : goal.returns-in-Err-clause-ports
returns-in-Err-clause-ports g c t = let inv = c.loop-at.invariant in c.in-Err.ensures.ports (inv.0 ∙ t) ∙ inv.3 t
