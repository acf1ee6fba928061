use Rattle.std.proofs.Common.{arith, ap, sym, ◌∙◌, length}
use lib.ListN.{get_elem?}
use Rattle.muck_laws.proofs.Places.{at_below, one_more}
use Rattle.atomic_table.proofs.Lists.{at_index}
use Rattle.spec_events.specs.Histories.{now}
use Rattle.spec_serve.specs.inner.Keeping.{Peer}
use Rattle.muck_peer.specs.Moves.{IsWorkedOff}
use Rattle.muck_porter.proofs.deeds.all_worked_off.Goals as goal

pub loop-p-preserved : goal.loop-p-preserved
loop-p-preserved c =
    one_more (λ (p : Peer). IsWorkedOff p (now c.args.world.now)) c.args.peers.now.items c.loop-p.p-index c.p-item.result (ap (λ l. get_elem? l c.loop-p.p-index) (sym c.as_slice-p-items.ensures.value) ∙ at_index c.as_slice-p-items.result.now c.loop-p.p-index c.p-item.result c.loop-p-test.true c.p-item.is) (c.is_worked_off.ensures c.if-not-is_worked_off.false) c.loop-p.invariant

pub returns : goal.returns
returns c t i p at = c.loop-p.invariant i p (let l = at_below c.args.peers.now.items i p at in let v = ap length c.as_slice-p-items.ensures.value in let e = c.loop-p-test.false in omega arith) at
