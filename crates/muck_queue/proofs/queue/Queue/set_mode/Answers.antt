use Rattle.std.proofs.Common.{◌∙◌, ap, refl}
use Rattle.std.specs.List.{list_any}
use Rattle.muck_queue.specs.Queues.{process_in_mode}
use Rattle.muck_queue.specs.inner.Known.{has_connection}
use Rattle.muck_queue.proofs.Kept.{stands_changed}
use Rattle.muck_queue.proofs.Known.{knows_mode}
use Rattle.muck_queue.proofs.queue.Queue.set_mode.Goals as goal

pub invariant_of-self : goal.invariant_of-self
invariant_of-self c = (
  stands_changed _ (process_in_mode c.args.mode) (λ p. refl) _ _ _ _ _ c.self.invariant.0 c.set_mode.ensures,
  knows_mode _ _ _ _ c.args.mode _ _ c.self.invariant.1 c.set_mode.ensures (c.are_tied-self-inside.ensures ∙ ap (list_any has_connection) c.deref.ensures.value),
)
