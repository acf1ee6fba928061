use Rattle.std.proofs.Common.{arith}
use Rattle.muck_queue.specs.Queues.{woken}
use Rattle.muck_queue.proofs.Kept.{stands_changed}
use Rattle.muck_queue.proofs.Known.{knows_changed, second_woken, ties_woken}
use Rattle.muck_queue.proofs.Woken.{woken_number}
use Rattle.muck_queue.proofs.queue.Queue.wake.Goals as goal

pub invariant_of-self : goal.invariant_of-self
invariant_of-self c =
    let least = c.min-self-inside.ensures in (
      stands_changed _ (woken c.args.moment) (woken_number c.args.moment) _ _ _ _ _ c.self.invariant.0 c.wake.ensures,
      knows_changed _ _ _ (woken c.args.moment) c.min-self-inside.result (omega arith) (ties_woken _ c.args.moment) (second_woken c.min-self-inside.result c.args.moment (omega arith)) _ _ c.self.invariant.1 c.wake.ensures,
    )
