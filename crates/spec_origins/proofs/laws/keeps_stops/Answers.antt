use Rattle.spec_origins.proofs.Stopping.{all_stops}
use Rattle.spec_origins.proofs.laws.keeps_stops.Goals as goal

pub returns : goal.returns
returns c = all_stops
