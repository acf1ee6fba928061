use Rattle.std.proofs.Common.{refl, ap}
use Rattle.spec_events.specs.World.{World}
use Rattle.muck_machine.proofs.Keepings.{keeps_entered}
use Rattle.muck_machine.proofs.world.World.moment.Goals as goal

pub invariant_of-self : goal.invariant_of-self
invariant_of-self c =
    keeps_entered c.self.inside.past _ _ _ _ _ c.self.invariant c.self.view_is c.requires refl c.enter.ensures (ap (λ (w : World). record w { moment = c.args.t }) c.state.view_is)
