use Rattle.std.proofs.Common.{refl}
use Rattle.muck_machine.proofs.Keepings.{keeps_concluded}
use Rattle.muck_machine.proofs.world.World.stored.Goals as goal

pub invariant_of-self : goal.invariant_of-self
invariant_of-self c =
    keeps_concluded c.self.inside.past _ _ _ _ _ c.end_dump-done.result c.conclude.result c.self.invariant c.self.view_is c.requires refl c.end_dump-done.ensures c.conclude.ensures.same c.conclude.ensures.past
