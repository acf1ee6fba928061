use Rattle.muck_queue.proofs.Kept.{stands_cleared}
use Rattle.muck_queue.proofs.Known.{knows_cleared}
use Rattle.muck_queue.proofs.queue.Queue.clear_trigger.Goals as goal

pub invariant_of-self : goal.invariant_of-self
invariant_of-self c =
    (stands_cleared c.args.trigger _ _ _ _ _ c.self.invariant.0 c.clear_trigger.ensures, knows_cleared _ _ c.args.trigger _ _ c.self.invariant.1 c.clear_trigger.ensures)
