use Rattle.std.proofs.Common.{refl, arith}
use Rattle.muck_queue.specs.Queues.{without_event}
use Rattle.muck_queue.proofs.Kept.{stands_changed}
use Rattle.muck_queue.proofs.Known.{knows_changed, second_taken}
use Rattle.muck_queue.proofs.queue.Queue.take_event.Goals as goal

pub invariant_of-self : goal.invariant_of-self
invariant_of-self c =
    (stands_changed _ without_event (λ p. refl) _ _ _ _ _ c.self.invariant.0 c.take_event.ensures.rest, knows_changed _ _ _ without_event _ (omega arith) (λ p h. h) (second_taken _) _ _ c.self.invariant.1 c.take_event.ensures.rest)
