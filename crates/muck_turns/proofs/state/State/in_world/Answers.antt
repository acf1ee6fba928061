use Rattle.std.proofs.Common.{ap}
use Rattle.spec_commands.specs.Finding.{actor_of}
use Rattle.spec_events.specs.World.{World}
use Rattle.spec_events.specs.Lines.{typed}
use Rattle.muck_turns.proofs.Turns.{said_so}
use Rattle.muck_turns.proofs.state.State.in_world.Goals as goal

pub returns-clause-said : goal.returns-clause-said
returns-clause-said c =
    said_so c.args.player (typed c.args.self.now.queue c.args.d (actor_of c.args.self.now.live.objects c.args.player) c.args.line.now c.args.self.now.live) _ _ _
    (ap (λ (w : World). w.live) c.in_ok-outcome.ensures.world) c.in_ok-outcome.ensures.outcome c.in_ok-said.ensures
