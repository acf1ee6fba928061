use Rattle.std.proofs.Common.{ap, ◌∙◌}
use Rattle.std.specs.Prelude.{is_some}
use Rattle.spec_events.specs.World.{World}
use Rattle.muck_machine.proofs.Keepings.{reads}
use Rattle.muck_machine.proofs.world.World.runs_dump.Goals as goal

pub returns : goal.returns
returns c = reads (λ w. is_some w.dumps.running) _ c.self.inside.past _ _ c.self.invariant c.self.view_is (c.is_running.ensures ∙ ap (λ (w : World). is_some w.dumps.running) c.state.view_is)
