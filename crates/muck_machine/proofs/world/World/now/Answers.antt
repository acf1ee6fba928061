use Rattle.std.proofs.Common.{ap}
use Rattle.spec_events.specs.World.{World}
use Rattle.muck_machine.proofs.Keepings.{reads}
use Rattle.muck_machine.proofs.world.World.now.Goals as goal

pub returns : goal.returns
returns c = reads (λ w. w.moment) _ c.self.inside.past _ _ c.self.invariant c.self.view_is (ap (λ (w : World). w.moment) c.state.view_is)
