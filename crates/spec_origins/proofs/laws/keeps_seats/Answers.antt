use Rattle.spec_origins.proofs.Waiting.{all_seated_booted}
use Rattle.spec_origins.proofs.laws.keeps_seats.Goals as goal

pub returns : goal.returns
returns c = all_seated_booted
