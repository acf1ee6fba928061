use Rattle.std.proofs.Common.{ap, ◌∙◌}
use Rattle.spec_events.specs.World.{World}
use Rattle.muck_queue.specs.Queues.{has_process_tied}
use Rattle.muck_machine.proofs.Keepings.{reads}
use Rattle.muck_machine.proofs.world.World.tied.Goals as goal

pub returns : goal.returns
returns c = reads (λ w. has_process_tied c.args.d w.queue) _ c.self.inside.past _ _ c.self.invariant c.self.view_is (c.is_tied.ensures ∙ ap (λ (w : World). has_process_tied c.args.d w.queue) c.state.view_is)
