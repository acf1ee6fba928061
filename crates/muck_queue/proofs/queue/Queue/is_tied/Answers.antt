use Rattle.std.proofs.Common.{subst, sym}
use Rattle.muck_queue.specs.Queues.{Queue, has_process_tied}
use Rattle.muck_queue.specs.inner.Known.{Knows}
use Rattle.muck_queue.proofs.Known.{none_tied}
use Rattle.muck_queue.proofs.queue.Queue.is_tied.Goals as goal

pub returns-then-not-self : goal.returns-then-not-self
unfolding has_process_tied
returns-then-not-self c =
    let known = subst (λ (q : Queue). Knows c.self.inside.tied c.self.inside.soonest q.processes) c.self.view_is c.self.invariant.1 in
    sym (none_tied c.args.d _ _ _ known c.if-not-self.true)
