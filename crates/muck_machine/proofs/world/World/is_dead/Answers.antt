use Rattle.muck_machine.proofs.Keepings.{lawful_seen, placed_seen}
use Rattle.muck_machine.proofs.world.World.is_dead.Goals as goal

pub returns-clause-lawful : goal.returns-clause-lawful
returns-clause-lawful c = lawful_seen c.self.inside.past _ _ c.self.invariant c.self.view_is

pub returns-clause-placed : goal.returns-clause-placed
returns-clause-placed c = placed_seen c.self.inside.past _ _ c.self.invariant c.self.view_is
