use Rattle.std.proofs.Common.{◌∙◌, ap}
use Rattle.spec_events.specs.World.{connection}
use Rattle.muck_machine.proofs.Keepings.{reads}
use Rattle.muck_machine.proofs.world.World.connection.Goals as goal

pub returns : goal.returns
returns c = reads (connection c.args.d) _ c.self.inside.past _ _ c.self.invariant c.self.view_is (c.connection.ensures ∙ ap (connection c.args.d) c.state.view_is)
