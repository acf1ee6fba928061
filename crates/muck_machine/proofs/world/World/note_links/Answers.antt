use Rattle.muck_machine.proofs.Keepings.{keeps_linked}
use Rattle.muck_machine.proofs.world.World.note_links.Goals as goal

pub invariant_of-self : goal.invariant_of-self
invariant_of-self g c = rw c.note_links.ensures (keeps_linked c.self.inside.past _ c.self.inside.state c.self.invariant)
