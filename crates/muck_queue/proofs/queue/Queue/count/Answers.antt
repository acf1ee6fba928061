use Rattle.std.proofs.Common.{refl, arith}
use Rattle.muck_queue.specs.Queues.{units_counted}
use Rattle.muck_queue.proofs.Kept.{stands_changed}
use Rattle.muck_queue.proofs.Known.{knows_changed}
use Rattle.muck_queue.proofs.queue.Queue.count.Goals as goal

pub invariant_of-self : goal.invariant_of-self
invariant_of-self c =
    (stands_changed _ (units_counted c.args.units) (λ p. refl) _ _ _ _ _ c.self.invariant.0 c.count.ensures, knows_changed _ _ _ (units_counted c.args.units) _ (omega arith) (λ p h. h) (λ p h. h) _ _ c.self.invariant.1 c.count.ensures)
