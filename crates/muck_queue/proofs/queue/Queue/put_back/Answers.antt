use Rattle.std.proofs.Common.{Some, refl, arith}
use Rattle.muck_queue.specs.Queues.{at_state}
use Rattle.muck_queue.proofs.Kept.{stands_changed}
use Rattle.muck_queue.proofs.Known.{knows_changed}
use Rattle.muck_queue.proofs.queue.Queue.put_back.Goals as goal

pub invariant_of-self : goal.invariant_of-self
invariant_of-self c =
    (stands_changed _ (at_state (Some c.args.running)) (λ p. refl) _ _ _ _ _ c.self.invariant.0 c.put_back.ensures, knows_changed _ _ _ (at_state (Some c.args.running)) _ (omega arith) (λ p h. h) (λ p h. h) _ _ c.self.invariant.1 c.put_back.ensures)
