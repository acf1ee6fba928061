use Rattle.spec_events.specs.Histories.{now}
use Rattle.muck_machine.proofs.Situated.{some_situated, none_situated}
use Rattle.muck_machine.proofs.world.World.situation.Goals as goal

pub returns-in-Some : goal.returns-in-Some
returns-in-Some c = some_situated _ _ _ c.args.d (now c.args.self.now) c.situation_of.ensures (c.is_stopping-stopping.ensures c.requires) (c.in-Some.ensures c.requires)

pub returns-in-None : goal.returns-in-None
returns-in-None c = none_situated c.args.d (now c.args.self.now) (c.in-None.ensures c.requires)
