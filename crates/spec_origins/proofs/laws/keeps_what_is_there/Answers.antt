use Rattle.spec_origins.proofs.Staying.{stays_there_booted}
use Rattle.spec_origins.proofs.laws.keeps_what_is_there.Goals as goal

pub returns : goal.returns
returns c = stays_there_booted
