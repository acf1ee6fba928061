use Rattle.std.proofs.Common.{subst}
use Rattle.muck_queue.specs.Queues.{Queue}
use Rattle.muck_queue.specs.inner.Numbered.{IsNumbered}
use Rattle.muck_queue.proofs.queue.Queue.len.Goals as goal

pub returns-clause-numbered : goal.returns-clause-numbered
unfolding IsNumbered
returns-clause-numbered c = subst (λ (q : Queue). IsNumbered q) c.self.view_is c.self.invariant.0.numbered
