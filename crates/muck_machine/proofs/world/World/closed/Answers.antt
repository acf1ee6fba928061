use Rattle.std.proofs.Common.{refl}
use Rattle.spec_events.specs.Histories.{now}
use Rattle.muck_machine.proofs.Keepings.{keeps_concluded, alive_now, still_seen}
use Rattle.muck_machine.proofs.world.World.closed.Goals as goal

pub close-done-requires : goal.close-done-requires
close-done-requires c = still_seen c.self.inside.past _ _ c.self.invariant c.self.view_is (alive_now (now c.args.self.now) _ c.requires refl)

pub invariant_of-self : goal.invariant_of-self
invariant_of-self c =
    keeps_concluded c.self.inside.past _ _ _ _ _ c.close-done.result c.conclude.result c.self.invariant c.self.view_is c.requires refl c.close-done.ensures c.conclude.ensures.same c.conclude.ensures.past
