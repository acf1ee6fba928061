use Rattle.muck_debugging.proofs.Apart.{shows_apart}
use Rattle.muck_debugging.proofs.laws.shows_apart.Goals as goal

pub returns : goal.returns
returns c = shows_apart
