use Rattle.std.proofs.Common.{ap, ◌∙◌, length}
use Rattle.spec_events.specs.World.{World}
use Rattle.muck_machine.proofs.Keepings.{reads}
use Rattle.muck_machine.proofs.world.World.size.Goals as goal

pub returns : goal.returns
returns c = reads (λ w. length w.live.objects) _ c.self.inside.past _ _ c.self.invariant c.self.view_is (c.count.ensures.count ∙ ap (λ (w : World). length w.live.objects) c.state.view_is)
