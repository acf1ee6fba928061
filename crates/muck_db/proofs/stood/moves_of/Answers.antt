use Rattle.std.proofs.Common.{arith}
use Rattle.muck_db.proofs.Moved.{moves_first, moves_on, moves_last}
use Rattle.muck_db.proofs.stood.moves_of.Goals as goal

pub loop-k-init : goal.loop-k-init
loop-k-init c = moves_first _ _ _ c.args.slots.now.items c.new-moves.ensures.items c.moved_within-low.ensures.within

pub loop-k-preserved : goal.loop-k-preserved
loop-k-preserved c = moves_on _ _ c.loop-k.k c.args.slots.now.items _ _ c.at-slot.ensures c.in_ok-push_move.ensures c.stands.ensures c.loop-k.invariant

pub returns : goal.returns
returns c = moves_last _ _ _ c.loop-k.k c.args.slots.now.items c.moved_within-low.ensures.within (omega (arith, c.loop-k-test.false)) c.loop-k.invariant
