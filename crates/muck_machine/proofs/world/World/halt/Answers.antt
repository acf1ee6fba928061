use Rattle.std.proofs.Common.{refl, ap, true}
use Rattle.spec_events.specs.World.{World}
use Rattle.spec_events.specs.Histories.{now}
use Rattle.spec_events.proofs.Reached.{halt_lawful}
use Rattle.muck_machine.proofs.Keepings.{keeps_entered}
use Rattle.muck_machine.proofs.world.World.halt.Goals as goal

pub invariant_of-self : goal.invariant_of-self
invariant_of-self c =
    keeps_entered c.self.inside.past _ _ _ _ _ c.self.invariant c.self.view_is (halt_lawful (now c.args.self.now) c.requires) refl c.enter.ensures (ap (λ (w : World). record w { stopping = true }) c.state.view_is)
