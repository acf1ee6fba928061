use Rattle.muck_bodies.proofs.Stores.{lead_there}
use Rattle.muck_bodies.proofs.laws.leads.Goals as goal

pub returns : goal.returns
returns c = lead_there
