use Rattle.spec_origins.proofs.Histories.{all_origins_booted}
use Rattle.spec_origins.proofs.laws.keeps_origins.Goals as goal

pub returns : goal.returns
returns c = all_origins_booted
