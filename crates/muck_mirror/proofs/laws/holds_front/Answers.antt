use Rattle.muck_mirror.proofs.Fronts.{holds}
use Rattle.muck_mirror.proofs.laws.holds_front.Goals as goal

pub returns : goal.returns
returns c = holds
