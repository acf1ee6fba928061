use Rattle.std.proofs.Common.{refl, arith}
use Rattle.muck_queue.specs.Queues.{sleeping}
use Rattle.muck_queue.proofs.Kept.{stands_changed}
use Rattle.muck_queue.proofs.Known.{knows_changed, second_due}
use Rattle.muck_queue.proofs.queue.Queue.sleep.Goals as goal

pub invariant_of-self : goal.invariant_of-self
invariant_of-self c =
    let least = c.min-self-inside.ensures in (
      stands_changed _ (sleeping c.args.due) (λ p. refl) _ _ _ _ _ c.self.invariant.0 c.sleep.ensures,
      knows_changed _ _ _ (sleeping c.args.due) c.min-self-inside.result (omega arith) (λ p h. h) (λ p h. second_due c.min-self-inside.result (sleeping c.args.due p) (omega arith)) _ _ c.self.invariant.1 c.sleep.ensures,
    )
