use Rattle.muck_queue.proofs.Kept.{stands_released}
use Rattle.muck_queue.proofs.queue.Queue.release.Goals as goal

pub invariant_of-self : goal.invariant_of-self
invariant_of-self c = (rw c.release.ensures.room (stands_released _ _ _ _ _ _ c.self.invariant.0 c.release.ensures.items), c.self.invariant.1)
