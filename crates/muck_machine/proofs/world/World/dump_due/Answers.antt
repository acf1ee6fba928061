use Rattle.spec_events.specs.Steps.{is_dump_due}
use Rattle.muck_machine.proofs.Keepings.{reads}
use Rattle.muck_machine.proofs.world.World.dump_due.Goals as goal

pub returns : goal.returns
returns c = reads is_dump_due _ c.self.inside.past _ _ c.self.invariant c.self.view_is c.is_dump_due.ensures
