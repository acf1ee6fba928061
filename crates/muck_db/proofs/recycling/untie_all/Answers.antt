use Rattle.std.proofs.Common.{arith}
use Rattle.muck_db.specs.inner.Slots.{untied_slot}
use Rattle.muck_db.proofs.Writes.{passed_none, passed_more, passed_all}
use Rattle.muck_db.proofs.recycling.untie_all.Goals as goal

pub loop-k-init : goal.loop-k-init
loop-k-init c = passed_none (untied_slot c.args.d) c.args.slots.now.items

pub untie_at-requires-clause-known : goal.untie_at-requires-clause-known
untie_at-requires-clause-known c = omega (arith, c.len-n.ensures, c.loop-k.invariant.same_length)

pub loop-k-preserved : goal.loop-k-preserved
loop-k-preserved c = passed_more (untied_slot c.args.d) _ _ _ _ c.untie_at.ensures.items c.loop-k.invariant

pub returns : goal.returns
returns c = passed_all (untied_slot c.args.d) _ _ _ (omega (arith, c.len-n.ensures)) c.loop-k.invariant
