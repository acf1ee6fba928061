use Rattle.std.proofs.Common.{refl, arith}
use Rattle.muck_queue.specs.Queues.{resting}
use Rattle.muck_queue.proofs.Kept.{stands_changed}
use Rattle.muck_queue.proofs.Known.{knows_changed, second_due}
use Rattle.muck_queue.proofs.queue.Queue.rest.Goals as goal

pub invariant_of-self : goal.invariant_of-self
invariant_of-self c = (
  stands_changed _ (resting c.args.wait) (λ p. refl) _ _ _ _ _ c.self.invariant.0 c.rest.ensures,
  knows_changed _ _ _ (resting c.args.wait) 0 (omega arith) (λ p h. h) (λ p h. second_due 0 (resting c.args.wait p) (omega arith)) _ _ c.self.invariant.1 c.rest.ensures,
)
