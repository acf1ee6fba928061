use Rattle.std.proofs.Common.{subst}
use Rattle.spec_events.specs.Histories.{History, AllLawful}
use Rattle.muck_machine.proofs.world.World.into_tale.Goals as goal

pub returns-clause-lawful : goal.returns-clause-lawful
returns-clause-lawful c = subst (λ (h : History). AllLawful h.start c.self.inside.past.tale.entries) c.self.view_is c.self.invariant.lawful
