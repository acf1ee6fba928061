use Rattle.spec_origins.proofs.Clearing.{settled_clears}
use Rattle.spec_origins.proofs.laws.clears_what_is_gone.Goals as goal

pub returns : goal.returns
returns c = settled_clears
