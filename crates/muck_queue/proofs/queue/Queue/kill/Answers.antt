use Rattle.std.proofs.Common.{◌∙◌, ap}
use Rattle.std.specs.List.{list_any}
use Rattle.muck_queue.specs.inner.Known.{has_connection}
use Rattle.muck_queue.proofs.Kept.{stands_without}
use Rattle.muck_queue.proofs.Known.{knows_without}
use Rattle.muck_queue.proofs.queue.Queue.kill.Goals as goal

pub invariant_of-self : goal.invariant_of-self
invariant_of-self c =
    (stands_without _ _ _ _ _ _ c.self.invariant.0 c.take-ended.ensures.rest, knows_without _ _ _ _ _ _ c.self.invariant.1 c.take-ended.ensures.rest (c.are_tied-self-inside.ensures ∙ ap (list_any has_connection) c.deref.ensures.value))
