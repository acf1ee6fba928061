use Rattle.muck_machine.proofs.Keepings.{keeps_lost}
use Rattle.muck_machine.proofs.world.World.died.Goals as goal

pub invariant_of-self : goal.invariant_of-self
invariant_of-self c = rw c.lose.ensures (keeps_lost c.self.inside.past c.args.party c.self.inside.state c.self.inside.state c.self.invariant)
