use Rattle.std.proofs.Common.{◌∙◌, ap}
use Rattle.std.specs.List.{list_any}
use Rattle.muck_queue.specs.Queues.{runs_in}
use Rattle.muck_queue.specs.inner.Known.{has_connection}
use Rattle.muck_queue.proofs.Kept.{stands_kept}
use Rattle.muck_queue.proofs.Known.{knows_kept}
use Rattle.muck_queue.proofs.queue.Queue.end_running.Goals as goal

pub invariant_of-self : goal.invariant_of-self
invariant_of-self c =
    (stands_kept (runs_in c.args.program) _ _ _ _ _ c.self.invariant.0 c.end_running.ensures, knows_kept _ _ _ (runs_in c.args.program) _ _ c.self.invariant.1 c.end_running.ensures (c.are_tied-self-inside.ensures ∙ ap (list_any has_connection) c.deref.ensures.value))
