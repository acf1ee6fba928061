use Rattle.muf_debug.proofs.Keeping.{keeps_shown}
use Rattle.muf_debug.proofs.laws.keeps_shown.Goals as goal

pub returns : goal.returns
returns c = keeps_shown
