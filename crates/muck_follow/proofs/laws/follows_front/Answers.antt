use Rattle.muck_follow.proofs.Fronts.{follows}
use Rattle.muck_follow.proofs.laws.follows_front.Goals as goal

pub returns : goal.returns
returns c = follows
