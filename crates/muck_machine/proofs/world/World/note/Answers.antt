use Rattle.std.proofs.Common.{refl}
use Rattle.muck_machine.proofs.Keepings.{keeps_noted}
use Rattle.muck_machine.proofs.world.World.note.Goals as goal

pub invariant_of-self : goal.invariant_of-self
invariant_of-self g c = rw c.note.ensures (keeps_noted c.self.inside.past _ c.self.inside.state refl c.self.invariant)
