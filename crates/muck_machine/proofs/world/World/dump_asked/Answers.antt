use Rattle.std.proofs.Common.{ap, ◌∙◌}
use Rattle.std.specs.Prelude.{is_some}
use Rattle.spec_events.specs.World.{World}
use Rattle.muck_machine.proofs.Keepings.{reads}
use Rattle.muck_machine.proofs.world.World.dump_asked.Goals as goal

pub returns : goal.returns
returns c = reads (λ w. is_some w.dumps.asked) _ c.self.inside.past _ _ c.self.invariant c.self.view_is (c.is_asked.ensures ∙ ap (λ (w : World). is_some w.dumps.asked) c.state.view_is)
