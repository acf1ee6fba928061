use Rattle.muck_queue.proofs.Kept.{stands_none}
use Rattle.muck_queue.proofs.Known.{knows_none}
use Rattle.muck_queue.proofs.queue.Queue.new.Goals as goal

pub invariant_of-result : goal.invariant_of-result
invariant_of-result c =
    (stands_none _ c.new-2.result.items c.new.result.items c.new-2.ensures.items c.new.ensures.items, knows_none _ _ c.new.result.items c.new.ensures.items)
